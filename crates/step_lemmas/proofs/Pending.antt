-- Interrupts that become pending: a number takes its place in a rising list, and the interrupts of a step come one after
-- another.
use Rattle.std.proofs.Common.{◌≡◌, ℕ, zero, suc, ◌+◌, ◌<◌, ◌≤◌, Bool, true, false, cond, ◌||◌, List, [], ◌∷◌, ◌++◌, Option, Some, None, refl, sym, ◌∙◌, ap, subst, arith, drop, length}
use Rattle.std.specs.Bool.{◌==◌}
use Rattle.std.specs.Prelude.{MatchOption, filter, fold, nat_le, nat_lt, not, slice_get, take, unwrap_or, ℤ}
use Rattle.std.specs.List.{list_any}
use Rattle.std.proofs.lemmas.Bool.Decides.{nat_tests}
use Rattle.tk_types.specs.declared.calls.ContextCall.{ContextCall}
use Rattle.tk_types.specs.declared.calls.ContextCall.TheVariants as contexts
use Rattle.tk_types.specs.declared.calls.TimeCall.{TimeCall}
use Rattle.tk_types.specs.declared.calls.TimeCall.TheVariants as times
use Rattle.tk_types.specs.declared.line.HandlerKind.TheVariants as handlers
use Rattle.tk_types.specs.declared.script.Interrupt.{Interrupt}
use Rattle.tk_types.specs.declared.task.Event.{Event as DueKind}
use Rattle.tk_types.specs.declared.task.Event.TheVariants as dues
use Rattle.kernel_model.specs.Words.Checks.{natural}
use Rattle.kernel_model.specs.Words.Orders.{without}
use Rattle.context_model.specs.Clocks.Tables.{is_event}
use Rattle.context_model.specs.Contexts.Tables.{handler_of}
use Rattle.machine_model.specs.States.State.{State}
use Rattle.machine_model.specs.Events.Bodies.{undefined, withdrawn}
use Rattle.machine_model.specs.Events.Handlers.{handler_begun, insert_once, interrupt_begun, requested}
use Rattle.step_lemmas.specs.Places.{InFront}

-- ---- the place of a number

pub none_before : (number : ℕ) (pending : List ℕ) → InFront number 0 pending
none_before number pending = refl

less_first : (number first : ℕ) (rest : List ℕ) → first < number → insert_once number (first ∷ rest) ≡ first ∷ insert_once number rest
unfolding insert_once
less_first number first rest less =
    let apart : (number == first) ≡ false = grind (arith, nat_tests, less) in
    let before : nat_lt number first ≡ false = grind (arith, nat_tests, less) in
    rw (apart, before) refl

passed_one : (number : ℕ) (pending : List ℕ) (place first : ℕ) → slice_get pending place ≡ Some first → first < number →
    take place pending ++ insert_once number (drop place pending) ≡ take (suc place) pending ++ insert_once number (drop (suc place) pending)
passed_one number [] place first at less = absurd (cc at)
passed_one number (x ∷ pending) zero first at less =
    let same : x ≡ first = cc at in
    less_first number x pending (subst (λ (n : ℕ). n < number) (sym same) less)
passed_one number (x ∷ pending) (suc place) first at less = ap (λ (list : List ℕ). x ∷ list) (passed_one number pending place first at less)

-- one number more is less
pub passes_one : (number : ℕ) (pending : List ℕ) (place first : ℕ) → slice_get pending place ≡ Some first → first < number → InFront number place pending → InFront number (place + 1) pending
passes_one number pending place first at less front =
    let one : place + 1 ≡ suc place = omega arith in
    front ∙ passed_one number pending place first at less ∙ ap (λ n. take n pending ++ insert_once number (drop n pending)) (sym one)

stands_first : (number : ℕ) (list : List ℕ) → slice_get list 0 ≡ Some number → insert_once number list ≡ list
unfolding insert_once
stands_first number [] at = absurd (cc at)
stands_first number (first ∷ rest) at =
    let same : first ≡ number = cc at in
    let equal : (number == first) ≡ true = grind (arith, nat_tests, same) in
    rw equal refl

comes_first : (number : ℕ) (list : List ℕ) → ((first : ℕ) → slice_get list 0 ≡ Some first → number < first) → insert_once number list ≡ number ∷ list
unfolding insert_once
comes_first number [] above = refl
comes_first number (first ∷ rest) above =
    let less : number < first = above first refl in
    let apart : (number == first) ≡ false = grind (arith, nat_tests, less) in
    let before : nat_lt number first ≡ true = grind (arith, nat_tests, less) in
    rw (apart, before) refl

get_dropped : (list : List ℕ) (place : ℕ) → slice_get (drop place list) 0 ≡ slice_get list place
get_dropped [] zero = refl
get_dropped [] (suc place) = refl
get_dropped (x ∷ list) zero = refl
get_dropped (x ∷ list) (suc place) = get_dropped list place

taken_whole : (list : List ℕ) (place : ℕ) → take place list ++ drop place list ≡ list
taken_whole [] zero = refl
taken_whole [] (suc place) = refl
taken_whole (x ∷ list) zero = refl
taken_whole (x ∷ list) (suc place) = ap (λ (rest : List ℕ). x ∷ rest) (taken_whole list place)

-- the number stands there
pub stands_there : (number : ℕ) (pending : List ℕ) (place : ℕ) → InFront number place pending → slice_get pending place ≡ Some number → pending ≡ insert_once number pending
stands_there number pending place front at =
    sym (front ∙ ap (λ (rest : List ℕ). take place pending ++ rest) (stands_first number (drop place pending) (get_dropped pending place ∙ at)) ∙ taken_whole pending place)

-- it takes that place
pub takes_place : (number : ℕ) (pending : List ℕ) (place : ℕ) → InFront number place pending → ((first : ℕ) → slice_get pending place ≡ Some first → number < first) → take place pending ++ number ∷ drop place pending ≡ insert_once number pending
takes_place number pending place front above =
    ap (λ (rest : List ℕ). take place pending ++ rest) (sym (comes_first number (drop place pending) (λ first at. above first (sym (get_dropped pending place) ∙ at)))) ∙ sym front

-- a number that isn't less, and is another one, is greater
pub above_it : (number : ℕ) (pending : List ℕ) (place : ℕ) → ((first : ℕ) → slice_get pending place ≡ Some first → number ≤ first) → (slice_get pending place ≡ Some number → ⊥) → (first : ℕ) → slice_get pending place ≡ Some first → number < first
above_it number pending place stops apart first at =
    let differs : first ≡ number → ⊥ = λ same. apart (at ∙ ap Some same) in
    let least : number ≤ first = stops first at in
    omega arith

-- ---- the interrupts of a step

-- what is left to request
abbrev pub left_to_request : ℕ → State → List Interrupt → State
left_to_request n st irqs = fold (λ before irq. requested before irq.number) st (filter (λ irq. irq.step == n) irqs)

requested_first : (n : ℕ) (st : State) (irq : Interrupt) (rest : List Interrupt) (now : Bool) → (irq.step == n) ≡ now → left_to_request n st (irq ∷ rest) ≡ left_to_request n (cond now (requested st irq.number) st) rest
requested_first n st irq rest true is = rw is refl
requested_first n st irq rest false is = rw is refl

-- one line more was looked at
pub request_goes_on : (n : ℕ) (irqs : List Interrupt) (place : ℕ) (irq : Interrupt) (st next all : State) (now : Bool) → slice_get irqs place ≡ Some irq → (irq.step == n) ≡ now → next ≡ cond now (requested st irq.number) st →
    left_to_request n st (drop place irqs) ≡ all → left_to_request n next (drop (place + 1) irqs) ≡ all
request_goes_on n [] place irq st next all now at is moved left = absurd (cc at)
request_goes_on n (x ∷ irqs) zero irq st next all now at is moved left =
    let same : x ≡ irq = cc at in
    ap (λ (s : State). left_to_request n s irqs) moved
    ∙ sym (requested_first n st irq irqs now is)
    ∙ ap (λ (first : Interrupt). left_to_request n st (first ∷ irqs)) (sym same)
    ∙ left
request_goes_on n (x ∷ irqs) (suc place) irq st next all now at is moved left =
    let one : suc place + 1 ≡ suc (place + 1) = omega arith in
    ap (λ k. left_to_request n next (drop k (x ∷ irqs))) one ∙ request_goes_on n irqs place irq st next all now at is moved left

nothing_left : {A : Type 0} → (list : List A) (place : ℕ) → length list ≤ place → drop place list ≡ []
nothing_left [] zero past = refl
nothing_left [] (suc place) past = refl
nothing_left (x ∷ list) zero past = absurd (omega (arith, past))
nothing_left (x ∷ list) (suc place) past = nothing_left list place (omega (arith, past))

-- all lines were looked at
pub request_ends : (n : ℕ) (irqs : List Interrupt) (place : ℕ) (st all : State) → length irqs ≤ place → left_to_request n st (drop place irqs) ≡ all → st ≡ all
request_ends n irqs place st all past left = sym (ap (left_to_request n st) (nothing_left irqs place past)) ∙ left

-- ---- interrupts that are still to come

abbrev pub is_to_come : ℕ → List Interrupt → Bool
is_to_come n irqs = list_any (λ irq. nat_le n irq.step) irqs

either_first : (now : Bool) (rest : Bool) → now ≡ true → cond now true rest ≡ true
either_first true rest is = refl
either_first false rest is = absurd (cc is)

-- one line more is of an earlier step
pub looked_on : (n : ℕ) (irqs : List Interrupt) (place : ℕ) (irq : Interrupt) (all : Bool) → slice_get irqs place ≡ Some irq → nat_le n irq.step ≡ false → is_to_come n (drop place irqs) ≡ all → is_to_come n (drop (place + 1) irqs) ≡ all
looked_on n [] place irq all at before left = absurd (cc at)
looked_on n (x ∷ irqs) zero irq all at before left =
    let same : x ≡ irq = cc at in
    let earlier : nat_le n x.step ≡ false = ap (λ (first : Interrupt). nat_le n first.step) same ∙ before in
    passed (nat_le n x.step) (is_to_come n irqs) earlier ∙ left
  where
    passed : (first later : Bool) → first ≡ false → later ≡ (first || later)
    passed true later is = absurd (cc is)
    passed false later is = refl
looked_on n (x ∷ irqs) (suc place) irq all at before left =
    let one : suc place + 1 ≡ suc (place + 1) = omega arith in
    ap (λ k. is_to_come n (drop k (x ∷ irqs))) one ∙ looked_on n irqs place irq all at before left

-- one is of this step or a later one
pub found_one : (n : ℕ) (irqs : List Interrupt) (place : ℕ) (irq : Interrupt) (all : Bool) → slice_get irqs place ≡ Some irq → nat_le n irq.step ≡ true → is_to_come n (drop place irqs) ≡ all → true ≡ all
found_one n [] place irq all at there left = absurd (cc at)
found_one n (x ∷ irqs) zero irq all at there left =
    let same : x ≡ irq = cc at in
    let here : nat_le n x.step ≡ true = ap (λ (first : Interrupt). nat_le n first.step) same ∙ there in
    sym (is_any (nat_le n x.step) (is_to_come n irqs) here) ∙ left
  where
    is_any : (first later : Bool) → first ≡ true → (first || later) ≡ true
    is_any true later is = refl
    is_any false later is = absurd (cc is)
found_one n (x ∷ irqs) (suc place) irq all at there left = found_one n irqs place irq all at there left

-- none is left
pub found_none : (n : ℕ) (irqs : List Interrupt) (place : ℕ) (all : Bool) → length irqs ≤ place → is_to_come n (drop place irqs) ≡ all → false ≡ all
found_none n irqs place all past left = sym (ap (is_to_come n) (nothing_left irqs place past)) ∙ left

-- ---- what isn't to come any more

-- what was found, or 0
found_or : (found : Option ℕ) (n : ℕ) → MatchOption found (n ≡ 0) (λ body. n ≡ body) → unwrap_or found 0 ≡ n
found_or None n is = sym is
found_or (Some body) n is = sym is

-- the handler of a pending interrupt starts
pub interrupt_begins : (n : ℕ) (st inside : State) (number body : ℕ) (pending : List ℕ) (found : Option ℕ) → inside ≡ st → pending ≡ without number inside.pending →
    MatchOption found (handler_of inside.objects.contexts number ≡ 0) (λ body. handler_of inside.objects.contexts number ≡ body) → body ≡ unwrap_or found 0 →
    handler_begun n (record inside { pending = pending }) handlers.Interrupt number body ≡ interrupt_begun n st number
unfolding interrupt_begun
interrupt_begins n st inside number body pending found same left at at_body =
    ap (λ (rest : List ℕ). handler_begun n (record inside { pending = rest }) handlers.Interrupt number body) left
    ∙ ap (λ (b : ℕ). handler_begun n (record inside { pending = without number inside.pending }) handlers.Interrupt number b) (at_body ∙ found_or found (handler_of inside.objects.contexts number) at)
    ∙ ap (λ (s : State). handler_begun n (record s { pending = without number s.pending }) handlers.Interrupt number (handler_of s.objects.contexts number)) same

-- a cyclic handler doesn't start any more
pub withdraws_cyclic : (st inside : State) (call : TimeCall) (id : ℤ) (n : ℕ) (due : List DueKind) → inside ≡ st → call ≡ times.DelCyc id → n ≡ natural id → due ≡ filter (λ what. not (is_event (dues.Cyclic n) what)) inside.due →
    record inside { due = due } ≡ withdrawn st call
withdraws_cyclic st inside call id n due same is at left =
    ap (λ (events : List DueKind). record inside { due = events }) left
    ∙ ap (λ (k : ℕ). record inside { due = filter (λ what. not (is_event (dues.Cyclic k) what)) inside.due }) at
    ∙ ap (λ (s : State). withdrawn s (times.DelCyc id)) same
    ∙ ap (withdrawn st) (sym is)

-- nor does an alarm handler
pub withdraws_alarm : (st inside : State) (call : TimeCall) (id : ℤ) (n : ℕ) (due : List DueKind) → inside ≡ st → call ≡ times.DelAlm id → n ≡ natural id → due ≡ filter (λ what. not (is_event (dues.Alarm n) what)) inside.due →
    record inside { due = due } ≡ withdrawn st call
withdraws_alarm st inside call id n due same is at left =
    ap (λ (events : List DueKind). record inside { due = events }) left
    ∙ ap (λ (k : ℕ). record inside { due = filter (λ what. not (is_event (dues.Alarm k) what)) inside.due }) at
    ∙ ap (λ (s : State). withdrawn s (times.DelAlm id)) same
    ∙ ap (withdrawn st) (sym is)

-- an interrupt is no longer pending
pub undefines : (st inside : State) (call : ContextCall) (number : ℤ) (n : ℕ) (pending : List ℕ) → inside ≡ st → call ≡ contexts.DefInt number 0 → n ≡ natural number → pending ≡ without n inside.pending →
    record inside { pending = pending } ≡ undefined st call
undefines st inside call number n pending same is at left =
    ap (λ (rest : List ℕ). record inside { pending = rest }) left
    ∙ ap (λ (k : ℕ). record inside { pending = without k inside.pending }) at
    ∙ ap (λ (s : State). undefined s (contexts.DefInt number 0)) same
    ∙ ap (undefined st) (sym is)
