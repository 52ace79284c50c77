use Rattle.std.proofs.Common.{◌≡◌, ℕ, ◌≤◌, ◌<◌, length, get_or, Some, None, ◌∙◌, ap, sym, subst, arith}
use Rattle.std.specs.Prelude.{slice_get}
use Rattle.std.proofs.lemmas.List.{get_or_read}
use Rattle.std.proofs.lemmas.Option.{get_or_from_slice_get, slice_get-get_or, slice_get_past}
use Rattle.step_lemmas.specs.Places.{InFront}
use Rattle.step_lemmas.proofs.Pending.{above_it, stands_there, takes_place}
use Rattle.tk_kernel.proofs.handlers.insert_once.Goals as goal
use Rattle.tk_kernel.proofs.handlers.insert_once.Goals.{else-place-len-via-then-place-len+else-index-number, else-place-len-via-else-place-len}

pub returns-then-index-number : goal.returns-then-index-number
returns-then-index-number c =
    let items = c.args.pending.now.items in
    let place = c.place_of-place.result in
    let inside : place < length items = omega arith in
    let read : c.index.result.now ≡ get_or items place 0 = get_or_read items _ _ inside c.index.ensures 0 in
    stands_there c.args.number items place (subst (InFront c.args.number place) c.as_slice.ensures.value c.place_of-place.ensures.front)
    (slice_get-get_or items place 0 inside ∙ ap Some (sym read ∙ c.if-index-number.true))

pub returns : goal.returns
returns c =
    let items = c.args.pending.now.items in
    let place = c.place_of-place.result in
    let number = c.args.number in
    let stops = subst (λ list. (first : ℕ) → slice_get list place ≡ Some first → number ≤ first) c.as_slice.ensures.value c.place_of-place.ensures.stops in
    let apart : slice_get items place ≡ Some number → ⊥ = elim c.else-place-len.branch [
      | else-place-len-via-then-place-len+else-index-number w ↦ λ at.
          let inside : place < length items = omega (arith, w.if-place-len.true) in
          let read : w.index.result.now ≡ get_or items place 0 = get_or_read items _ _ inside w.index.ensures 0 in
          let is : get_or items place 0 ≡ number = get_or_from_slice_get items place number 0 at in
          w.if-index-number.false (read ∙ is)
      | else-place-len-via-else-place-len w ↦ λ at.
          let past : slice_get items place ≡ None = slice_get_past items place (omega (arith, w.if-place-len.false)) in
          absurd (cc (past, at))
    ] in
    c.in_ok-insert.ensures.items ∙ takes_place number items place (subst (InFront number place) c.as_slice.ensures.value c.place_of-place.ensures.front) (above_it number items place stops apart)
