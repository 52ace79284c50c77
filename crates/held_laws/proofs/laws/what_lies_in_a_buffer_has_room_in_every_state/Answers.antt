use Rattle.held_laws.proofs.Mails.{reached_room}
use Rattle.held_laws.proofs.laws.what_lies_in_a_buffer_has_room_in_every_state.Goals as goal

pub returns : goal.returns
returns c = reached_room
