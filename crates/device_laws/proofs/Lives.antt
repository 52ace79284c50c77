-- What holds of requests after every list of moves.
use Rattle.std.proofs.Common.{◌≡◌, ℕ, zero, suc, ◌<◌, true, false, List, Option, Some, None, ap, sym, ◌∙◌, ◌⊎◌, inl, inr, arith}
use Rattle.std.specs.Prelude.{replicate}
use Rattle.tk_types.specs.declared.script.Script.{Script}
use Rattle.kernel_model.specs.Words.Orders.{entry}
use Rattle.device_model.specs.declared.rows.Life.{Life}
use Rattle.device_model.specs.declared.rows.Life.TheVariants as life
use Rattle.device_model.specs.Devices.Tables.{Row, Devices, devices_start, has_ended, is_at_driver, is_queued, row_at}
use Rattle.device_model.specs.Devices.MoveProofs.{is_aborted}
use Rattle.device_laws.specs.Moves.{Move, all_moved}
use Rattle.device_laws.specs.Requests.{AreApart, IsGone, StaysSo}
use Rattle.device_laws.proofs.Follows.{Change, Same, Went, Came, From, Follows, all_keep}

same_serial : (dv : Devices) (before after : Row) → Change dv before after → after.serial ≡ before.serial
same_serial dv before after (Same is) = ap (λ (row : Row). row.serial) is
same_serial dv before after (Went queued is) = ap (λ (row : Row). row.serial) is
same_serial dv before after (Came away d link given how linked has fit its is) = ap (λ (row : Row). row.serial) is

pub from_before : (dv : Devices) (id : ℕ) (row : Row) → (from : From dv id row) → row.serial ≡ from.before.serial
from_before dv id row from = same_serial dv from.before row from.change

-- ---- serials

apart_kept : (dv after : Devices) → Follows dv after → AreApart dv → AreApart after
apart_kept dv after follows before = record {
  given = λ id row there. by_one id row (follows.rows id row there);
  apart = λ id other row second there also same. by_both id other row second same (follows.rows id row there) (follows.rows other second also);
}
  where
    by_one : (id : ℕ) (row : Row) → ((id ≡ follows.fresh) × (row.serial ≡ dv.serial) × (dv.serial < after.serial) × (is_aborted row.life ≡ false) × (is_at_driver row.life ≡ false)) ⊎ From dv id row → row.serial < after.serial
    by_one id row (inl new) = omega (arith, new.1, new.2)
    by_one id row (inr from) = let old : from.before.serial < dv.serial = before.given id from.before from.there in let same : row.serial ≡ from.before.serial = from_before dv id row from in omega (arith, old, same, follows.serials)

    by_both : (id other : ℕ) (row second : Row) → row.serial ≡ second.serial →
        ((id ≡ follows.fresh) × (row.serial ≡ dv.serial) × (dv.serial < after.serial) × (is_aborted row.life ≡ false) × (is_at_driver row.life ≡ false)) ⊎ From dv id row →
        ((other ≡ follows.fresh) × (second.serial ≡ dv.serial) × (dv.serial < after.serial) × (is_aborted second.life ≡ false) × (is_at_driver second.life ≡ false)) ⊎ From dv other second → id ≡ other
    by_both id other row second same (inl new) (inl also) = new.0 ∙ sym also.0
    by_both id other row second same (inl new) (inr from) = let old : from.before.serial < dv.serial = before.given other from.before from.there in let kept : second.serial ≡ from.before.serial = from_before dv other second from in absurd (omega (arith, old, kept, same, new.1))
    by_both id other row second same (inr from) (inl also) = let old : from.before.serial < dv.serial = before.given id from.before from.there in let kept : row.serial ≡ from.before.serial = from_before dv id row from in absurd (omega (arith, old, kept, same, also.1))
    by_both id other row second same (inr from) (inr also) =
        before.apart id other from.before also.before from.there also.there (sym (from_before dv id row from) ∙ (same ∙ from_before dv other second also))

pub stay_apart : (moves : List Move) (dv : Devices) → AreApart dv → AreApart (all_moved dv moves)
unfolding all_moved
stay_apart moves dv before = all_keep AreApart apart_kept moves dv before

pub nothing_there : (n id : ℕ) (row : Row) → entry (replicate n None) id ≡ Some row → ⊥
nothing_there zero id row there = absurd (cc there)
nothing_there (suc n) zero row there = absurd (cc there)
nothing_there (suc n) (suc id) row there = nothing_there n id row there

pub apart_at_first : (script : Script) → AreApart (devices_start script)
unfolding devices_start
apart_at_first script = record {
  given = λ id row there. absurd (nothing_there 65 id row there);
  apart = λ id other row second there also same. absurd (nothing_there 65 id row there);
}

-- ---- gone

gone_kept : (serial : ℕ) (dv after : Devices) → Follows dv after → IsGone serial dv → IsGone serial after
gone_kept serial dv after follows before = record {
  given = omega (arith, before.given, follows.serials);
  gone = λ id row there same. by_row id row same (follows.rows id row there);
}
  where
    by_row : (id : ℕ) (row : Row) → row.serial ≡ serial → ((id ≡ follows.fresh) × (row.serial ≡ dv.serial) × (dv.serial < after.serial) × (is_aborted row.life ≡ false) × (is_at_driver row.life ≡ false)) ⊎ From dv id row → ⊥
    by_row id row same (inl new) = omega (arith, before.given, same, new.1)
    by_row id row same (inr from) = before.gone id from.before from.there (sym (from_before dv id row from) ∙ same)

pub stays_gone : (serial : ℕ) (moves : List Move) (dv : Devices) → IsGone serial dv → IsGone serial (all_moved dv moves)
unfolding all_moved
stays_gone serial moves dv before = all_keep (IsGone serial) (gone_kept serial) moves dv before

-- ---- ended

neither : (now : Life) → has_ended now ≡ true → is_queued now ≡ true → ⊥
neither (life.Ended size error) over waits = absurd (cc waits)
neither life.Queued over waits = absurd (cc over)
neither life.AtDriver over waits = absurd (cc over)

nor : (now : Life) → has_ended now ≡ true → is_at_driver now ≡ true → ⊥
nor (life.Ended size error) over away = absurd (cc away)
nor life.Queued over away = absurd (cc over)
nor life.AtDriver over away = absurd (cc over)

so_kept : (first : Row) → has_ended first.life ≡ true → (dv after : Devices) → Follows dv after → StaysSo first dv → StaysSo first after
so_kept first over dv after follows before = record {
  given = omega (arith, before.given, follows.serials);
  so = λ id row there same. by_row id row same (follows.rows id row there);
}
  where
    by_change : (row old : Row) → old ≡ first → Change dv old row → row ≡ first
    by_change row old is (Same kept) = kept ∙ is
    by_change row old is (Went queued went) = absurd (neither first.life over (ap (λ (r : Row). is_queued r.life) (sym is) ∙ queued))
    by_change row old is (Came away d link given how linked has fit its came) = absurd (nor first.life over (ap (λ (r : Row). is_at_driver r.life) (sym is) ∙ away))

    by_row : (id : ℕ) (row : Row) → row.serial ≡ first.serial → ((id ≡ follows.fresh) × (row.serial ≡ dv.serial) × (dv.serial < after.serial) × (is_aborted row.life ≡ false) × (is_at_driver row.life ≡ false)) ⊎ From dv id row → row ≡ first
    by_row id row same (inl new) = absurd (omega (arith, before.given, same, new.1))
    by_row id row same (inr from) = by_change row from.before (before.so id from.before from.there (sym (from_before dv id row from) ∙ same)) from.change

abbrev row_or : Option Row → Row → Row
row_or None otherwise = otherwise
row_or (Some row) otherwise = row

-- a request that is there is as it is, since no other has its serial
pub so_now : (dv : Devices) (id : ℕ) (row : Row) → AreApart dv → row_at dv id ≡ Some row → StaysSo row dv
so_now dv id row apart there = record {
  given = apart.given id row there;
  so = λ other now also same. by_place other now also (apart.apart other id now row also there same);
}
  where
    by_place : (other : ℕ) (now : Row) → row_at dv other ≡ Some now → other ≡ id → now ≡ row
    by_place other now also is = ap (λ (slot : Option Row). row_or slot row) (sym (ap (λ (n : ℕ). row_at dv n) (sym is) ∙ also) ∙ there)

-- where it has ended it stays so through moves
pub so_stays : (row : Row) → has_ended row.life ≡ true → (moves : List Move) (dv : Devices) → StaysSo row dv → StaysSo row (all_moved dv moves)
unfolding all_moved
so_stays row over moves dv so = all_keep (StaysSo row) (so_kept row over) moves dv so

-- a request that has ended is from then on as it was, while it is there
pub stays_so : (moves : List Move) (dv : Devices) (id : ℕ) (row : Row) → AreApart dv → row_at dv id ≡ Some row → has_ended row.life ≡ true → StaysSo row (all_moved dv moves)
stays_so moves dv id row apart there over = so_stays row over moves dv (so_now dv id row apart there)
