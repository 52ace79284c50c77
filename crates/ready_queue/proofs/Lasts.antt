-- Who is the last of a priority.
use Rattle.std.proofs.Common.{◌≡◌, ◌≢◌, ℕ, zero, suc, length, get_or, ⊎_elim, ◌<◌, Bool, true, false, not, List, [], ◌∷◌, ◌++◌, cond, refl, sym, ap, ◌∙◌, subst, arith}
use Rattle.std.specs.List.{filter, remove, position_or_len}
use Rattle.std.proofs.lemmas.Bool.{cases_lt, ltb-true, eqb-true}
use Rattle.std.proofs.lemmas.List.Sums.{passes_at_first}
use Rattle.std.proofs.lemmas.Bool.Decides.{nat_tests}
use Rattle.ready_queue.specs.declared.places.ReadyTask.{ReadyTask}
use Rattle.ready_queue.specs.Queue.{is_below, is_of_priority, is_of_task, places_of, put_behind, rotated, first_goes_behind, without_task}
use Rattle.ready_queue.specs.Facts.{AllFrom, IsRising, EachOnce}
use Rattle.ready_queue.proofs.Found.{found_front, found_nothing, here_is, not_here, swapped}
use Rattle.ready_queue.proofs.Keyed.{once_filter, without_at}
use Rattle.ready_queue.proofs.Kept.{rising_filter}
use Rattle.ready_queue.proofs.Next.{none_lower}

own_priority : (place : ReadyTask) → is_of_priority place.priority place ≡ true
own_priority place = grind (arith, nat_tests)

push_if : (test : Bool) (first place : ReadyTask) (list passed : List ReadyTask) → list ≡ passed ++ place ∷ [] → cond test (first ∷ list) list ≡ cond test (first ∷ passed) passed ++ place ∷ []
push_if true first place list passed same = ap (λ l. first ∷ l) same
push_if false first place list passed same = same

last_step : (test : Bool) (place first : ReadyTask) (rest behind : List ReadyTask) → is_below place.priority first ≡ test → AllFrom first.priority rest →
    places_of place.priority behind ≡ places_of place.priority rest ++ place ∷ [] →
    places_of place.priority (cond test (place ∷ first ∷ rest) (first ∷ behind)) ≡ places_of place.priority (first ∷ rest) ++ place ∷ []
last_step true place first rest behind is above more =
    let lower : place.priority < first.priority = ltb-true place.priority first.priority is in
    let none : places_of place.priority (first ∷ rest) ≡ [] = none_lower place.priority first.priority (first ∷ rest) lower (omega arith, above) in
    here_is (is_of_priority place.priority place) place (places_of place.priority (first ∷ rest)) (own_priority place)
    ∙ ap (λ l. place ∷ l) none ∙ sym (ap (λ l. l ++ place ∷ []) none)
last_step false place first rest behind is above more =
    push_if (is_of_priority place.priority first) first place (places_of place.priority behind) (places_of place.priority rest) more

pub put_is_last : (place : ReadyTask) (list : List ReadyTask) → IsRising list → places_of place.priority (put_behind place list) ≡ places_of place.priority list ++ place ∷ []
put_is_last place [] rising = here_is (is_of_priority place.priority place) place [] (own_priority place)
put_is_last place (first ∷ rest) rising =
    last_step (is_below place.priority first) place first rest (put_behind place rest) refl rising.0 (put_is_last place rest rising.1)

other_priority : (place : ReadyTask) (priority : ℕ) → place.priority ≢ priority → is_of_priority priority place ≡ false
other_priority place priority differs = grind (arith, nat_tests, differs)

others_step : (test : Bool) (place first : ReadyTask) (priority : ℕ) (rest behind : List ReadyTask) → place.priority ≢ priority →
    places_of priority behind ≡ places_of priority rest → places_of priority (cond test (place ∷ first ∷ rest) (first ∷ behind)) ≡ places_of priority (first ∷ rest)
others_step true place first priority rest behind differs same =
    not_here (is_of_priority priority place) place (places_of priority (first ∷ rest)) (other_priority place priority differs)
others_step false place first priority rest behind differs same =
    ap (λ l. cond (is_of_priority priority first) (first ∷ l) l) same

pub put_keeps_others : (place : ReadyTask) (priority : ℕ) (list : List ReadyTask) → place.priority ≢ priority → places_of priority (put_behind place list) ≡ places_of priority list
put_keeps_others place priority [] differs = not_here (is_of_priority priority place) place [] (other_priority place priority differs)
put_keeps_others place priority (first ∷ rest) differs =
    others_step (is_below place.priority first) place first priority rest (put_behind place rest) differs (put_keeps_others place priority rest differs)

-- ---- rotations

-- the first of a priority, by its index
record StandsFirst (priority : ℕ) (list : List ReadyTask) (first : ReadyTask) : Type 0 where
  at : ℕ
  within : at < length list
  is : first ≡ get_or list at first
  own : first.priority ≡ priority

stands_at : (priority : ℕ) (list : List ReadyTask) (first : ReadyTask) (rest : List ReadyTask) → places_of priority list ≡ first ∷ rest → position_or_len (is_of_priority priority) list < length list → StandsFirst priority list first
stands_at priority list first rest same within =
    let at : ℕ = position_or_len (is_of_priority priority) list in
    let front = found_front (is_of_priority priority) list first within in
    let is : first ≡ get_or list at first = cc (same, front.1) in
    let passes : is_of_priority priority (get_or list at first) ≡ true = passes_at_first (is_of_priority priority) list first within in
    record { at = at; within = within; is = is; own = ap (λ p. p.priority) is ∙ eqb-true (get_or list at first).priority priority passes }

no_first : (first : ReadyTask) (rest passed : List ReadyTask) → passed ≡ first ∷ rest → passed ≡ [] → ⊥
no_first first rest passed some none = cc

stands_first : (priority : ℕ) (list : List ReadyTask) (first : ReadyTask) (rest : List ReadyTask) → places_of priority list ≡ first ∷ rest → StandsFirst priority list first
stands_first priority list first rest same =
    ⊎_elim (stands_at priority list first rest same)
    (λ past. absurd (no_first first rest (places_of priority list) same (found_nothing (is_of_priority priority) list past)))
    (cases_lt (position_or_len (is_of_priority priority) list) (length list))

pub rotation_moves : (priority : ℕ) (list : List ReadyTask) (first : ReadyTask) (rest : List ReadyTask) → IsRising list → EachOnce list → places_of priority list ≡ first ∷ rest →
    places_of priority (rotated priority list) ≡ rest ++ first ∷ []
rotation_moves priority list first rest rising once same =
    let stands : StandsFirst priority list first = stands_first priority list first rest same in
    let stays : ReadyTask → Bool = λ place. not (is_of_task first.task place) in
    let left : List ReadyTask = without_task first.task list in
    let alone : EachOnce (first ∷ rest) = subst EachOnce same (once_filter (λ (p : ReadyTask). p.task) (is_of_priority priority) list once) in
    let equals : places_of priority left ≡ rest =
    swapped (is_of_priority priority) stays list ∙ (ap (filter stays) same ∙ sym (without_at (λ (p : ReadyTask). p.task) (first ∷ rest) 0 first alone (omega arith) refl)) in
    let last : places_of priority (put_behind first left) ≡ places_of priority left ++ first ∷ [] =
    subst (λ (p : ℕ). places_of p (put_behind first left) ≡ places_of p left ++ first ∷ []) stands.own (put_is_last first left (rising_filter stays list rising)) in
    ap (λ places. places_of priority (first_goes_behind places list)) same ∙ (last ∙ ap (λ l. l ++ first ∷ []) equals)

left_other : (list : List ReadyTask) (at : ℕ) (place : ReadyTask) (other : ℕ) → at < length list → place ≡ get_or list at place → place.priority ≢ other → places_of other (remove list at) ≡ places_of other list
left_other [] at place other within is differs = absurd (omega arith)
left_other (first ∷ rest) zero place other within is differs =
    sym (not_here (is_of_priority other first) first (places_of other rest) (subst (λ (p : ReadyTask). is_of_priority other p ≡ false) is (other_priority place other differs)))
left_other (first ∷ rest) (suc at) place other within is differs =
    ap (λ l. cond (is_of_priority other first) (first ∷ l) l) (left_other rest at place other (omega arith) is differs)

kept_others : (equals list : List ReadyTask) (priority other : ℕ) → places_of priority list ≡ equals → EachOnce list → priority ≢ other → places_of other (first_goes_behind equals list) ≡ places_of other list
kept_others [] list priority other same once differs = refl
kept_others (first ∷ rest) list priority other same once differs =
    let stands : StandsFirst priority list first = stands_first priority list first rest same in
    let apart : first.priority ≢ other = subst (λ (p : ℕ). p ≢ other) (sym stands.own) differs in
    put_keeps_others first other (without_task first.task list) apart
    ∙ (ap (places_of other) (sym (without_at (λ (p : ReadyTask). p.task) list stands.at first once stands.within stands.is))
    ∙ left_other list stands.at first other stands.within stands.is apart)

pub rotation_keeps_others : (priority other : ℕ) (list : List ReadyTask) → EachOnce list → priority ≢ other → places_of other (rotated priority list) ≡ places_of other list
rotation_keeps_others priority other list once differs = kept_others (places_of priority list) list priority other refl once differs
