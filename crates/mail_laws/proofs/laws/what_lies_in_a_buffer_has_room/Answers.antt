use Rattle.mail_laws.proofs.laws.what_lies_in_a_buffer_has_room.Goals as goal
use Rattle.mail_laws.specs.Rooms.{HaveRoom}
use Rattle.mail_laws.proofs.Keeps.{call_keeps, boxes_keep, buffers_keep, post_keeps}
use Rattle.mail_laws.proofs.Room.{room_kept, start_room}

pub returns-clause-start : goal.returns-clause-start
returns-clause-start c = start_room

pub returns-clause-call : goal.returns-clause-call
returns-clause-call c = call_keeps HaveRoom room_kept

pub returns-clause-boxes : goal.returns-clause-boxes
returns-clause-boxes c = boxes_keep HaveRoom room_kept

pub returns-clause-buffers : goal.returns-clause-buffers
returns-clause-buffers c = buffers_keep HaveRoom room_kept

pub returns-clause-post : goal.returns-clause-post
returns-clause-post c = post_keeps HaveRoom room_kept
