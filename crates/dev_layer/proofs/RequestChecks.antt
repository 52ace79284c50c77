-- What a request comes to, check by check.
use Rattle.std.proofs.Common.{◌≡◌, ℕ, Bool, true, false, not, List, [], ◌∷◌, ◌++◌, Option, Some, None, refl, ap, ◌∙◌, arith}
use Rattle.std.specs.Bool.{◌==◌}
use Rattle.std.specs.Prelude.{ℤ, negsuc, IfOk, Result, Ok, Err}
use Rattle.std.specs.Option.{is_some, option_or}
use Rattle.std.proofs.lemmas.Bool.Decides.{nat_tests}
use Rattle.tk_types.specs.declared.answer.Who.{Who}
use Rattle.tk_types.specs.declared.error_code.Er.{Er}
use Rattle.tk_types.specs.declared.error_code.Er.TheVariants as er
use Rattle.kernel_model.specs.Words.Checks.{Check, ◌otherwise◌, failed, first_error, natural}
use Rattle.kernel_model.specs.Tasks.Calls.{caller}
use Rattle.device_model.specs.declared.rows.Transfer.{Transfer}
use Rattle.device_model.specs.Devices.Tables.{free_request}
use Rattle.device_model.specs.Devices.Endings.{DevParts}
use Rattle.device_model.specs.Devices.Requests.{accept, has_place}
use Rattle.device_model.specs.Devices.Calls.{DevDone, any_waits, claim, device_checked, device_of, refused_with, request, request_whole, requested, start_of, stayed, stays, transfer_of}
use Rattle.dev_layer.specs.Accepting.{access_checks, number_checks}
use Rattle.dev_layer.specs.Parts.{left_with}
use Rattle.dev_layer.specs.declared.requesting.Wanted.{Wanted}
use Rattle.dev_layer.proofs.Checked.{error_of_both}

-- the first error of the first checks decides
pub refused_by : (front others : List Check) (p : DevParts) (effect : DevDone) (error : Er) → first_error front ≡ Some error → device_checked (front ++ others) p effect ≡ left_with p (failed error)
refused_by front others p effect error is =
    ap (λ o. refused_with o p effect) (error_of_both front others ∙ ap (λ o. option_or o (first_error others)) is)

-- where they hold, the others do
pub passed_by : (front others : List Check) (p : DevParts) (effect : DevDone) → first_error front ≡ None → device_checked (front ++ others) p effect ≡ device_checked others p effect
passed_by front others p effect is = ap (λ o. refused_with o p effect) (error_of_both front others ∙ ap (λ o. option_or o (first_error others)) is)

one_passed : (test : Bool) (error : Er) (others : List Check) (p : DevParts) (effect : DevDone) → test ≡ true → device_checked ((test otherwise error) ∷ others) p effect ≡ device_checked others p effect
one_passed true error others p effect is = refl
one_passed false error others p effect is = absurd (cc is)

some_free : (id : ℕ) → (id ≡ 0 → ⊥) → not (id == 0) ≡ true
some_free id apart = grind (arith, nat_tests, apart)

pub if_ok_then : {A E : Type 0} (r : Result A E) (P Q : A → Type 0) → ((x : A) → P x → Q x) → IfOk r P → IfOk r Q
if_ok_then (Ok x) P Q more has = more x has
if_ok_then (Err e) P Q more has = has

abbrev limit_check : DevParts → List Check
limit_check p = (not (free_request p.table == 0) otherwise er.Limit) ∷ []

abbrev own_checks : DevParts → Wanted → List Check
own_checks p w = (not (any_waits p (natural w.descriptor)) otherwise er.Obj) ∷ limit_check p

abbrev access_of : DevParts → Who → Wanted → List Check
access_of p who w = access_checks p.base p.table who (natural w.descriptor) w.write

abbrev transfer_in : Wanted → Transfer
transfer_in w = transfer_of w.descriptor w.write w.start w.address w.size

abbrev request_effect : DevParts → Who → Wanted → ℤ → DevDone
request_effect p who w timeout = requested p (caller who) (device_of p.table (natural w.descriptor)) (transfer_in w) timeout

abbrev whole_effect : DevParts → Who → Wanted → DevDone
whole_effect p who w = stayed p (caller who) (device_of p.table (natural w.descriptor)) (transfer_in w) (start_of w.start)

-- ---- `tk_rea_dev` and `tk_wri_dev`

pub numbers_refused : (p : DevParts) (who : Who) (w : Wanted) (timeout : ℤ) (error : Er) → first_error (number_checks w timeout) ≡ Some error →
    request p who w.write w.descriptor w.start w.address w.size timeout ≡ left_with p (failed error)
unfolding request
numbers_refused p who w timeout error is = refused_by (number_checks w timeout) (access_of p who w ++ limit_check p) p (request_effect p who w timeout) error is

pub access_refused : (p : DevParts) (who : Who) (w : Wanted) (timeout : ℤ) (error : Er) → first_error (number_checks w timeout) ≡ None → first_error (access_checks p.base p.table who (natural w.descriptor) w.write) ≡ Some error →
    request p who w.write w.descriptor w.start w.address w.size timeout ≡ left_with p (failed error)
unfolding request
access_refused p who w timeout error numbers is =
    passed_by (number_checks w timeout) (access_of p who w ++ limit_check p) p (request_effect p who w timeout) numbers ∙ refused_by (access_of p who w) (limit_check p) p (request_effect p who w timeout) error is

pub request_goes : (p : DevParts) (who : Who) (w : Wanted) (timeout : ℤ) → first_error (number_checks w timeout) ≡ None → first_error (access_checks p.base p.table who (natural w.descriptor) w.write) ≡ None → (free_request p.table ≡ 0 → ⊥) →
    request p who w.write w.descriptor w.start w.address w.size timeout
    ≡ requested p (caller who) (device_of p.table (natural w.descriptor)) (transfer_of w.descriptor w.write w.start w.address w.size) timeout
unfolding request
request_goes p who w timeout numbers access free =
    passed_by (number_checks w timeout) (access_of p who w ++ limit_check p) p (request_effect p who w timeout) numbers ∙ passed_by (access_of p who w) (limit_check p) p (request_effect p who w timeout) access
    ∙ one_passed (not (free_request p.table == 0)) er.Limit [] p (request_effect p who w timeout) (some_free (free_request p.table) free)

-- ---- `tk_srea_dev` and `tk_swri_dev`

pub whole_numbers_refused : (p : DevParts) (who : Who) (w : Wanted) (error : Er) → first_error (number_checks w (negsuc 0)) ≡ Some error →
    request_whole p who w.write w.descriptor w.start w.address w.size ≡ left_with p (failed error)
unfolding request_whole
whole_numbers_refused p who w error is = refused_by (number_checks w (negsuc 0)) (access_of p who w ++ own_checks p w) p (whole_effect p who w) error is

pub whole_access_refused : (p : DevParts) (who : Who) (w : Wanted) (error : Er) → first_error (number_checks w (negsuc 0)) ≡ None → first_error (access_checks p.base p.table who (natural w.descriptor) w.write) ≡ Some error →
    request_whole p who w.write w.descriptor w.start w.address w.size ≡ left_with p (failed error)
unfolding request_whole
whole_access_refused p who w error numbers is =
    passed_by (number_checks w (negsuc 0)) (access_of p who w ++ own_checks p w) p (whole_effect p who w) numbers ∙ refused_by (access_of p who w) (own_checks p w) p (whole_effect p who w) error is

pub whole_goes : (p : DevParts) (who : Who) (w : Wanted) → first_error (number_checks w (negsuc 0)) ≡ None → first_error (access_checks p.base p.table who (natural w.descriptor) w.write) ≡ None →
    any_waits p (natural w.descriptor) ≡ false → (free_request p.table ≡ 0 → ⊥) →
    request_whole p who w.write w.descriptor w.start w.address w.size
    ≡ stayed p (caller who) (device_of p.table (natural w.descriptor)) (transfer_of w.descriptor w.write w.start w.address w.size) (start_of w.start)
unfolding request_whole
whole_goes p who w numbers access nobody free =
    passed_by (number_checks w (negsuc 0)) (access_of p who w ++ own_checks p w) p (whole_effect p who w) numbers ∙ passed_by (access_of p who w) (own_checks p w) p (whole_effect p who w) access
    ∙ one_passed (not (any_waits p (natural w.descriptor))) er.Obj (limit_check p) p (whole_effect p who w) (ap not nobody)
    ∙ one_passed (not (free_request p.table == 0)) er.Limit [] p (whole_effect p who w) (some_free (free_request p.table) free)

pub stays_there : (p : DevParts) (t d : ℕ) (x : Transfer) (start : Option ℕ) → is_some start ≡ true → stayed p t d x start ≡ stays p t d x
stays_there p t d x None some = absurd (cc some)
stays_there p t d x (Some start) some = refl

pub stays_full : (p : DevParts) (t d : ℕ) (x : Transfer) (start : Option ℕ) → is_some start ≡ false → has_place p.table d ≡ false → stayed p t d x start ≡ stays p t d x
stays_full p t d x None none full = rw full refl
stays_full p t d x (Some start) none full = absurd (cc none)

pub stays_not : (p : DevParts) (t d : ℕ) (x : Transfer) (start : Option ℕ) → is_some start ≡ false → has_place p.table d ≡ true →
    stayed p t d x start ≡ claim (accept p d (free_request p.table) x) true (free_request p.table)
stays_not p t d x None none place = rw place refl
stays_not p t d x (Some start) none place = absurd (cc none)
