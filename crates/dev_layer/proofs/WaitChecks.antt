-- What a wait for an ending comes to, check by check.
use Rattle.std.proofs.Common.{◌≡◌, ℕ, true, false, List, ◌++◌, Option, Some, None, ap, sym, ◌∙◌}
use Rattle.std.specs.Prelude.{ℤ}
use Rattle.tk_types.specs.declared.answer.Who.{Who}
use Rattle.tk_types.specs.declared.error_code.Er.{Er}
use Rattle.tk_types.specs.declared.error_code.Er.TheVariants as er
use Rattle.kernel_model.specs.Words.Checks.{Check, failed, first_error, natural}
use Rattle.kernel_model.specs.Tasks.Calls.{caller}
use Rattle.kernel_model.specs.Tasks.Base.{Base}
use Rattle.device_model.specs.Devices.Tables.{Devices}
use Rattle.device_model.specs.declared.rows.Wish.{Wish}
use Rattle.device_model.specs.Devices.Endings.{DevParts}
use Rattle.device_model.specs.Devices.Requests.{picked}
use Rattle.device_model.specs.Devices.Calls.{DevDone, claim, ending_waited, ending_wish, refused_with, wait_ending, waited}
use Rattle.dev_layer.specs.Accepting.{if_obj, wait_access, wait_numbers, wait_others}
use Rattle.dev_layer.specs.Parts.{left_with}
use Rattle.dev_layer.proofs.RequestChecks.{passed_by, refused_by}

abbrev access_of : DevParts → Who → ℤ → ℤ → List Check
access_of p who d r = wait_access p.base p.table who (natural d) (natural r)

abbrev others_of : DevParts → ℤ → ℤ → List Check
others_of p d r = wait_others p (natural d) (natural r)

abbrev effect_of : DevParts → Who → ℤ → ℤ → ℤ → DevDone
effect_of p who d r timeout = waited p (caller who) (natural d) timeout (ending_wish p.table (natural r))

pub wait_numbers_refused : (p : DevParts) (who : Who) (d r timeout : ℤ) (error : Er) → first_error (wait_numbers d r timeout) ≡ Some error → wait_ending p who d r timeout ≡ left_with p (failed error)
unfolding wait_ending
wait_numbers_refused p who d r timeout error is = refused_by (wait_numbers d r timeout) (access_of p who d r ++ others_of p d r) p (effect_of p who d r timeout) error is

pub wait_access_refused : (p : DevParts) (who : Who) (d r timeout : ℤ) (error : Er) → first_error (wait_numbers d r timeout) ≡ None → first_error (wait_access p.base p.table who (natural d) (natural r)) ≡ Some error →
    wait_ending p who d r timeout ≡ left_with p (failed error)
unfolding wait_ending
wait_access_refused p who d r timeout error numbers is =
    passed_by (wait_numbers d r timeout) (access_of p who d r ++ others_of p d r) p (effect_of p who d r timeout) numbers
    ∙ refused_by (access_of p who d r) (others_of p d r) p (effect_of p who d r timeout) error is

pub wait_others_refused : (p : DevParts) (who : Who) (d r timeout : ℤ) → first_error (wait_numbers d r timeout) ≡ None → first_error (wait_access p.base p.table who (natural d) (natural r)) ≡ None →
    first_error (wait_others p (natural d) (natural r)) ≡ if_obj true → wait_ending p who d r timeout ≡ left_with p (failed er.Obj)
unfolding wait_ending
wait_others_refused p who d r timeout numbers access is =
    passed_by (wait_numbers d r timeout) (access_of p who d r ++ others_of p d r) p (effect_of p who d r timeout) numbers
    ∙ passed_by (access_of p who d r) (others_of p d r) p (effect_of p who d r timeout) access
    ∙ ap (λ o. refused_with o p (effect_of p who d r timeout)) is

pub wait_goes : (p : DevParts) (who : Who) (d r timeout : ℤ) → first_error (wait_numbers d r timeout) ≡ None → first_error (wait_access p.base p.table who (natural d) (natural r)) ≡ None →
    first_error (wait_others p (natural d) (natural r)) ≡ if_obj false → wait_ending p who d r timeout ≡ waited p (caller who) (natural d) timeout (ending_wish p.table (natural r))
unfolding wait_ending
wait_goes p who d r timeout numbers access is =
    passed_by (wait_numbers d r timeout) (access_of p who d r ++ others_of p d r) p (effect_of p who d r timeout) numbers
    ∙ passed_by (access_of p who d r) (others_of p d r) p (effect_of p who d r timeout) access
    ∙ ap (λ o. refused_with o p (effect_of p who d r timeout)) is

-- an ending that is there is claimed
pub claims : (p : DevParts) (t dd id : ℕ) (timeout : ℤ) (wish : Wish) → picked p.table dd wish ≡ Some id → waited p t dd timeout wish ≡ claim p false id
claims p t dd id timeout wish is = ap (ending_waited p t dd timeout wish) is

-- the same numbers
pub numbers_are : {d e r s t u : ℤ} {o : Option Er} → d ≡ e → r ≡ s → t ≡ u → first_error (wait_numbers d r t) ≡ o → first_error (wait_numbers e s u) ≡ o
numbers_are {d = d} {e = e} {r = r} {s = s} {t = t} {u = u} one two three is =
    ap (λ (k : ℤ). first_error (wait_numbers k s u)) (sym one) ∙ ap (λ (k : ℤ). first_error (wait_numbers d k u)) (sym two) ∙ ap (λ (k : ℤ). first_error (wait_numbers d r k)) (sym three) ∙ is

pub named_access : (b : Base) (dv : Devices) (who : Who) {dd ee id other : ℕ} {o : Option Er} → dd ≡ ee → id ≡ other → first_error (wait_access b dv who dd id) ≡ o → first_error (wait_access b dv who ee other) ≡ o
named_access b dv who {dd = dd} {ee = ee} {id = id} {other = other} one two is =
    ap (λ (k : ℕ). first_error (wait_access b dv who k other)) (sym one) ∙ ap (λ (k : ℕ). first_error (wait_access b dv who dd k)) (sym two) ∙ is

pub named_others : (p : DevParts) {dd ee id other : ℕ} {o : Option Er} → dd ≡ ee → id ≡ other → first_error (wait_others p dd id) ≡ o → first_error (wait_others p ee other) ≡ o
named_others p {dd = dd} {ee = ee} {id = id} {other = other} one two is =
    ap (λ (k : ℕ). first_error (wait_others p k other)) (sym one) ∙ ap (λ (k : ℕ). first_error (wait_others p dd k)) (sym two) ∙ is
