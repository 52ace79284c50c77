-- Who stands first in a queue waits for its object.
use Rattle.std.proofs.Common.{◌≡◌, ℕ, suc, ◌≤◌, Bool, true, false, not, cond, List, [], ◌∷◌, Some, refl, ap, sym, ◌∙◌, arith, length}
use Rattle.std.specs.Prelude.{slice_get}
use Rattle.std.specs.Bool.{◌==◌}
use Rattle.std.specs.List.{filter}
use Rattle.std.proofs.lemmas.Bool.Decides.{nat_tests}
use Rattle.tk_types.specs.declared.task.Order.{Order}
use Rattle.tk_types.specs.declared.task.Order.TheVariants.{Fifo, Priority}
use Rattle.kernel_model.specs.Words.Orders.{without}
use Rattle.kernel_model.specs.Tasks.Base.{Base, queue, waits_for}
use Rattle.kernel_lemmas.proofs.Queues.{fifo_absent, priority_absent}

absent : (order : Order) (b : Base) (t object : ℕ) → waits_for b object t ≡ false → without t (queue order b object) ≡ queue order b object
absent Fifo b t object idle = fifo_absent b t object idle
absent Priority b t object idle = priority_absent b t object idle

kept_if : (test : Bool) (x : ℕ) (rest kept : List ℕ) → length kept ≤ length rest → length (cond test (x ∷ kept) kept) ≤ suc (length rest)
kept_if true x rest kept few = omega (arith, few)
kept_if false x rest kept few = omega (arith, few)

fewer : (passes : ℕ → Bool) (list : List ℕ) → length (filter passes list) ≤ length list
fewer passes [] = omega arith
fewer passes (x ∷ list) = kept_if (passes x) x list (filter passes list) (fewer passes list)

gone_if : (test : Bool) (t : ℕ) (list kept : List ℕ) → test ≡ false → cond test (t ∷ kept) kept ≡ t ∷ list → length kept ≤ length list → ⊥
gone_if true t list kept is same few = absurd (cc is)
gone_if false t list kept is same few = let long : length kept ≡ suc (length list) = ap length same in absurd (omega (arith, long, few))

not_without : (t : ℕ) (list : List ℕ) → without t (t ∷ list) ≡ t ∷ list → ⊥
not_without t list same =
    let itself : (t == t) ≡ true = grind (arith, nat_tests) in
    gone_if (not (t == t)) t list (without t list) (ap not itself) same (fewer (λ other. not (other == t)) list)

waits_if : (order : Order) (b : Base) (object t : ℕ) (list : List ℕ) (test : Bool) → waits_for b object t ≡ test → queue order b object ≡ list → slice_get list 0 ≡ Some t → waits_for b object t ≡ true
waits_if order b object t list true waits stand first = waits
waits_if order b object t [] false waits stand first = absurd (cc first)
waits_if order b object t (u ∷ rest) false waits stand first =
    let same : u ≡ t = cc first in
    let queued : queue order b object ≡ t ∷ rest = stand ∙ ap (λ v. v ∷ rest) same in
    absurd (not_without t rest (ap (without t) (sym queued) ∙ absent order b t object waits ∙ queued))

pub first_waits : (order : Order) (b : Base) (object t : ℕ) → slice_get (queue order b object) 0 ≡ Some t → waits_for b object t ≡ true
first_waits order b object t first = waits_if order b object t (queue order b object) (waits_for b object t) refl refl first
