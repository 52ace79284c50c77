-- What a suspension comes to, check by check.
use Rattle.std.proofs.Common.{◌≡◌, ℕ, Bool, true, false, not, Some, None, refl, ap, ◌∙◌}
use Rattle.std.specs.Bool.{◌==◌}
use Rattle.std.specs.Prelude.{if◌then◌else◌, ◌&&◌}
use Rattle.tk_types.specs.declared.answer.Who.{Who}
use Rattle.tk_types.specs.declared.error_code.Er.TheVariants as er
use Rattle.tk_types.specs.declared.modes.SuspendMode.{SuspendMode}
use Rattle.kernel_model.specs.declared.marks.Mark.TheVariants.{MayWait}
use Rattle.kernel_model.specs.Tasks.Calls.{caller}
use Rattle.kernel_model.specs.Tasks.Marks.{allows}
use Rattle.kernel_model.specs.Words.Checks.{failed, first_error}
use Rattle.device_model.specs.Devices.Calls.{is_suspend_mode, may_suspend, refused_with, suspend_checks, suspend_devices, suspend_effect, suspended}
use Rattle.device_model.specs.Devices.Endings.{DevParts}
use Rattle.device_model.specs.Devices.Handing.{any_given}
use Rattle.dev_layer.specs.Parts.{left_with}

last_check : (p : DevParts) (who : Who) (mode : SuspendMode) (may : Bool) → is_suspend_mode mode ≡ true → allows p.base.flags who MayWait ≡ true → (mode.td_dissus && p.table.off == 65535) ≡ false → mode.td_suspend ≡ true → may_suspend p mode ≡ may →
    first_error (suspend_checks p who mode) ≡ (if may then None else Some er.Busy)
last_check p who mode true one two three four five = rw (one, two, three, four, five) refl
last_check p who mode false one two three four five = rw (one, two, three, four, five) refl

effect_if : (p : DevParts) (t : ℕ) (mode : SuspendMode) → mode.td_suspend ≡ true → suspend_effect p t mode ≡ suspended (any_given p.table) p t
effect_if p t mode is = rw is refl

-- one more may not suspend now
pub busy_suspend : (p : DevParts) (who : Who) (mode : SuspendMode) → is_suspend_mode mode ≡ true → allows p.base.flags who MayWait ≡ true → (mode.td_dissus && p.table.off == 65535) ≡ false → mode.td_suspend ≡ true → may_suspend p mode ≡ false →
    suspend_devices p who mode ≡ left_with p (failed er.Busy)
unfolding suspend_devices
busy_suspend p who mode one two three four five = ap (λ o. refused_with o p (suspend_effect p (caller who) mode)) (last_check p who mode false one two three four five)

pub suspend_goes : (p : DevParts) (who : Who) (mode : SuspendMode) → is_suspend_mode mode ≡ true → allows p.base.flags who MayWait ≡ true → (mode.td_dissus && p.table.off == 65535) ≡ false → mode.td_suspend ≡ true → may_suspend p mode ≡ true →
    suspend_devices p who mode ≡ suspended (any_given p.table) p (caller who)
unfolding suspend_devices
suspend_goes p who mode one two three four five =
    ap (λ o. refused_with o p (suspend_effect p (caller who) mode)) (last_check p who mode true one two three four five) ∙ effect_if p (caller who) mode four

pub is_so : (b : Bool) → not b ≡ false → b ≡ true
is_so true is = refl
is_so false is = absurd (cc is)
