-- How a request is accepted, beside the definitions.
use Rattle.std.specs.Prelude.{ℕ, ◌==◌, Bool, true, false, not, ◌||◌, ◌&&◌, ℤ, negsuc, int_le, if◌then◌else◌, List, [], ◌∷◌, Option, Some, None}
use Rattle.tk_types.specs.declared.answer.Who.{Who}
use Rattle.tk_types.specs.declared.error_code.Er.{Er}
use Rattle.tk_types.specs.declared.error_code.Er.TheVariants as er
use Rattle.kernel_model.specs.declared.marks.Mark.TheVariants.{MayWait}
use Rattle.kernel_model.specs.Words.Checks.{Check, ◌otherwise◌, within}
use Rattle.kernel_model.specs.Tasks.Base.{Base}
use Rattle.kernel_model.specs.Tasks.Marks.{allows}
use Rattle.object_model.specs.Mails.Calls.{is_inside}
use Rattle.object_model.specs.Mails.Tables.{Mails, has_mbf}
use Rattle.device_model.specs.Devices.Calls.{any_waits, has_request, is_open, names_request, one_waits, permits, somebody_waits}
use Rattle.device_model.specs.Devices.Endings.{DevParts}
use Rattle.device_model.specs.Devices.Tables.{Devices}
use Rattle.dev_layer.specs.declared.requesting.Wanted.{Wanted}

-- the message buffer with that ID, or 0 for none, where there is one
abbrev pub buffer_in : Mails → ℕ → Option ℕ
buffer_in m id = if id == 0 || has_mbf m id then Some id else None

-- the checks of the numbers of a request
abbrev pub number_checks : Wanted → ℤ → List Check
number_checks wanted timeout =
    (within 1 32 wanted.descriptor otherwise er.Id)
    ∷ (int_le (negsuc 0) wanted.start otherwise er.Par)
    ∷ (is_inside wanted.address wanted.size otherwise er.Par)
    ∷ (int_le (negsuc 0) timeout otherwise er.Par)
    ∷ []

-- whether a caller may use a descriptor so
abbrev pub access_checks : Base → Devices → Who → ℕ → Bool → List Check
access_checks b dv who dd write =
    (allows b.flags who MayWait otherwise er.Ctx)
    ∷ (is_open dv dd otherwise er.Id)
    ∷ (permits dv dd write otherwise er.OaCv)
    ∷ []

-- the checks of the numbers of `tk_wai_dev`
abbrev pub wait_numbers : ℤ → ℤ → ℤ → List Check
wait_numbers descriptor id timeout =
    (within 1 32 descriptor otherwise er.Id)
    ∷ (within 0 64 id otherwise er.Id)
    ∷ (int_le (negsuc 0) timeout otherwise er.Par)
    ∷ []

-- whether a caller may wait for that request of a descriptor
abbrev pub wait_access : Base → Devices → Who → ℕ → ℕ → List Check
wait_access b dv who dd id =
    (allows b.flags who MayWait otherwise er.Ctx)
    ∷ (is_open dv dd otherwise er.Id)
    ∷ (names_request dv dd id otherwise er.Id)
    ∷ (not (id == 0) || has_request dv dd otherwise er.NoExs)
    ∷ []

-- whether others wait already
abbrev pub wait_others : DevParts → ℕ → ℕ → List Check
wait_others p dd id =
    (not (one_waits p dd id) otherwise er.Obj)
    ∷ (not (any_waits p dd) otherwise er.Obj)
    ∷ (not (id == 0 && somebody_waits p dd) otherwise er.Obj)
    ∷ []

abbrev pub if_obj : Bool → Option Er
if_obj true = Some er.Obj
if_obj false = None
