-- The first object of a kind that can serve, of those that there are.
use Rattle.std.proofs.Common.{◌≡◌, ℕ, suc, ◌+◌, ◌≤◌, Bool, true, false, List, [], ◌∷◌, Option, Some, None, refl, ap, sym, ◌∙◌, arith, drop, length}
use Rattle.std.specs.Option.{is_some, option_or}
use Rattle.kernel_model.specs.Words.Orders.{entry, taken_from}
use Rattle.kernel_lemmas.proofs.Tables.{entry_beyond}
use Rattle.mail_buffer.specs.Tables.{AreFreeFrom}
use Rattle.object_model.specs.Servings.{first_serving}
use Rattle.device_model.specs.Devices.Endings.{DevParts}
use Rattle.device_model.specs.Devices.Servings.{serve_acceptance, serve_acceptances, serve_close, serve_closes, serve_ending, serve_endings}
use Rattle.dev_layer.specs.Serving.{at_close, at_device, at_ending, served_where}

same_step : {P : Type 0} (f g : ℕ → Option P) (id : ℕ) (xs ys : List ℕ) → f id ≡ g id → first_serving f xs ≡ first_serving g ys → first_serving f (id ∷ xs) ≡ first_serving g (id ∷ ys)
unfolding first_serving
same_step f g id xs ys one rest = ap (λ o. option_or o (first_serving f xs)) one ∙ ap (option_or (g id)) rest

same_slots : {A P : Type 0} (f g : ℕ → Option P) (slots : List (Option A)) (id : ℕ) → ((n : ℕ) → is_some (entry slots n) ≡ true → f (id + n) ≡ g (id + n)) → first_serving f (taken_from id slots) ≡ first_serving g (taken_from id slots)
unfolding first_serving
same_slots f g [] id same = refl
same_slots {P = P} f g (None ∷ slots) id same =
    same_slots f g slots (id + 1) (λ n some. (let next : id + suc n ≡ id + 1 + n = omega arith in ap f (sym next) ∙ same (suc n) some ∙ ap g next))
same_slots {P = P} f g (Some k ∷ slots) id same =
    let here : id + 0 ≡ id = omega arith in
    same_step f g id (taken_from (id + 1) slots) (taken_from (id + 1) slots) (ap f (sym here) ∙ same 0 refl ∙ ap g here)
    (same_slots f g slots (id + 1) (λ n some. (let next : id + suc n ≡ id + 1 + n = omega arith in ap f (sym next) ∙ same (suc n) some ∙ ap g next)))

-- looked at where there is something, it is the same
there_same : {A : Type 0} (serve : ℕ → Option DevParts) (slots : List (Option A)) → first_serving (λ id. served_where (is_some (entry slots id)) (serve id)) (taken_from 1 (drop 1 slots)) ≡ first_serving serve (taken_from 1 (drop 1 slots))
unfolding first_serving
there_same serve [] = refl
there_same serve (slot ∷ slots) =
    same_slots (λ id. served_where (is_some (entry (slot ∷ slots) id)) (serve id)) serve slots 1
    (λ n some. (let next : 1 + n ≡ suc n = omega arith in ap (λ b. served_where b (serve (1 + n))) (ap (λ id. is_some (entry (slot ∷ slots) id)) next ∙ some)))

pub acceptances_same : (p : DevParts) → first_serving (at_device p) (taken_from 1 (drop 1 p.table.links)) ≡ serve_acceptances p
unfolding serve_acceptances
acceptances_same p = there_same (serve_acceptance p) p.table.links

pub endings_same : (p : DevParts) → first_serving (at_ending p) (taken_from 1 (drop 1 p.table.opened)) ≡ serve_endings p
unfolding serve_endings
endings_same p = there_same (serve_ending p) p.table.opened

pub closes_same : (p : DevParts) → first_serving (at_close p) (taken_from 1 (drop 1 p.table.opened)) ≡ serve_closes p
unfolding serve_closes
closes_same p = there_same (serve_close p) p.table.opened

some_there : (there : Bool) (served : Option DevParts) (q : DevParts) → served_where there served ≡ Some q → there ≡ true
some_there true served q is = refl
some_there false served q is = absurd (cc is)

pub device_there : (p : DevParts) (d : ℕ) (q : DevParts) → at_device p d ≡ Some q → is_some (entry p.table.links d) ≡ true
device_there p d q is = some_there (is_some (entry p.table.links d)) (serve_acceptance p d) q is

pub ending_there : (p : DevParts) (dd : ℕ) (q : DevParts) → at_ending p dd ≡ Some q → is_some (entry p.table.opened dd) ≡ true
ending_there p dd q is = some_there (is_some (entry p.table.opened dd)) (serve_ending p dd) q is

pub close_there : (p : DevParts) (dd : ℕ) (q : DevParts) → at_close p dd ≡ Some q → is_some (entry p.table.opened dd) ≡ true
close_there p dd q is = some_there (is_some (entry p.table.opened dd)) (serve_close p dd) q is

-- behind the last slot nothing is taken
pub free_behind : {A : Type 0} (slots : List (Option A)) (used : ℕ) → length slots ≤ used → AreFreeFrom used slots
free_behind slots used over = record { free = λ id from. entry_beyond slots id (omega (arith, over, from)) }
