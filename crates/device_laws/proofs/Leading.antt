-- All that is done to devices is a list of moves.
use Rattle.std.proofs.Common.{◌≡◌, ℕ, Bool, true, List, [], ◌∷◌, ◌++◌, Option, Some, refl, ap, ◌∙◌}
use Rattle.std.specs.Prelude.{fold, if◌then◌else◌}
use Rattle.tk_types.specs.declared.line.How.{How}
use Rattle.device_model.specs.Devices.Tables.{Given, Link, Row, Devices, is_at_driver, link_at, row_at}
use Rattle.device_model.specs.Devices.Endings.{ended_at, is_allowed, served_of}
use Rattle.device_model.specs.Devices.Handing.{emptied}
use Rattle.device_model.specs.Devices.MoveProofs.{IsMoveProof, IsArrivalProof}
use Rattle.device_laws.specs.Moves.{Move, Opens, Wishes, Buffers, Offs, Accepts, Drops, Hands, Asks, Arrives, Takes, ended, ended_given, ended_if, ended_link, ended_row, moved, all_moved, Leads}

pub fold_more : (moves : List Move) (move : Move) (dv : Devices) → fold moved dv (moves ++ move ∷ []) ≡ moved (fold moved dv moves) move
fold_more [] move dv = refl
fold_more (first ∷ moves) move dv = fold_more moves move (moved dv first)

-- one move more
pub one_more : (dv now after : Devices) (move : Move) → moved now move ≡ after → Leads dv now → Leads dv after
unfolding all_moved
one_more dv now after move is before = record {
  moves = before.moves ++ move ∷ [];
  leads = fold_more before.moves move dv ∙ (ap (λ (from : Devices). moved from move) before.leads ∙ is);
}

pub no_moves : (dv : Devices) → Leads dv dv
unfolding all_moved
no_moves dv = record { moves = []; leads = refl }

pub leading : (dv : Devices) → IsMoveProof (Leads dv)
unfolding moved
leading dv = record {
  opens = λ now dd slot. one_more dv now _ (Opens dd slot) refl;
  wishes = λ now t wish. one_more dv now _ (Wishes t wish) refl;
  buffers = λ now d id. one_more dv now _ (Buffers d id) refl;
  offs = λ now off. one_more dv now _ (Offs off) refl;
  accepts = λ now id row new. one_more dv now _ (Accepts id row new) refl;
  drops = λ now id. one_more dv now _ (Drops id) refl;
  hands = λ now d. one_more dv now _ (Hands d) refl;
  asks = λ now d. one_more dv now _ (Asks d) refl;
}

-- what has come from the driver is what the move does
ended_is : (dv : Devices) (d : ℕ) (link : Link) (given : Given) (row : Row) (how : How) → link_at dv d ≡ Some link → link.given ≡ Some given → row_at dv given.request.id ≡ Some row → is_at_driver row.life ≡ true →
    is_allowed link.kind link.store given how ≡ true → ended dv d how ≡ ended_at dv d link given.request.id row (served_of link.kind link.store given.request how)
unfolding ended
ended_is dv d link given row how linked has there away fit =
    ap (λ (slot : Option Link). ended_link dv d how slot) linked
    ∙ (ap (λ (slot : Option Given). ended_given dv d link how slot) has
    ∙ (ap (λ (allowed : Bool). ended_if allowed dv d link given how) fit
    ∙ (ap (λ (slot : Option Row). ended_row dv d link given how slot) there
    ∙ ap (λ (gone : Bool). if gone then ended_at dv d link given.request.id row (served_of link.kind link.store given.request how) else dv) away)))

pub arriving : (dv : Devices) → IsArrivalProof (Leads dv)
unfolding moved
arriving dv = record {
  arrives = λ now d link given row how linked has there away fit. one_more dv now _ (Arrives d how) (ended_is now d link given row how linked has there away fit);
}

-- messages that are taken are a move
pub takes : (dv now : Devices) → Leads dv now → Leads dv (emptied now)
unfolding moved
takes dv now = one_more dv now (emptied now) Takes refl

pub taking : (dv : Devices) → Leads dv (emptied dv)
taking dv = takes dv dv (no_moves dv)
