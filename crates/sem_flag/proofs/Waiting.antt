-- A wait for an event flag whose checks all hold.
use Rattle.std.proofs.Common.{◌≡◌, ℕ, Bool, true, false, cond, Some, None, refl, ap, ◌∙◌, ℤ, pos, negsuc}
use Rattle.std.specs.Prelude.{int_le}
use Rattle.std.specs.Ordering.{int_eq}
use Rattle.std.specs.Int.{w32, cast_unsigned}
use Rattle.tk_types.specs.declared.answer.Who.{Who}
use Rattle.tk_types.specs.declared.modes.FlagMode.{FlagMode}
use Rattle.kernel_model.specs.declared.marks.Mark.TheVariants.{MayWait}
use Rattle.kernel_model.specs.declared.objects.EventFlag.{EventFlag}
use Rattle.kernel_model.specs.declared.objects.FlagWish.{FlagWish}
use Rattle.kernel_model.specs.Words.Checks.{natural, within}
use Rattle.kernel_model.specs.Tasks.Base.{Base}
use Rattle.kernel_model.specs.Tasks.Marks.{allows}
use Rattle.kernel_model.specs.Tasks.Calls.{caller}
use Rattle.kernel_model.specs.SemFlags.Tables.{SemFlags, flag_at}
use Rattle.kernel_model.specs.SemFlags.Calls.{is_mode, may_join, wait_flag, waited_for_flag}

named_if : (test : Bool) (n at : ℕ) → cond test (Some n) None ≡ Some at → (test ≡ true) × (n ≡ at)
named_if true n at is = (refl, cc is)
named_if false n at is = absurd (cc is)

abbrev pub wish : ℤ → FlagMode → FlagWish
wish bits mode = record { bits = cast_unsigned w32 bits; mode = mode }

-- the checks hold, and the flag with that ID answers or lets the task wait
pub flag_waited : (b : Base) (s : SemFlags) (who : Who) (id bits timeout : ℤ) (mode : FlagMode) (at : ℕ) (k : EventFlag) →
    cond (within 1 64 id) (Some (natural id)) None ≡ Some at → int_eq bits (pos 0) ≡ false → is_mode mode ≡ true → int_le (negsuc 0) timeout ≡ true → allows b.flags who MayWait ≡ true →
    flag_at s at ≡ Some k → may_join b at (Some k) ≡ true →
    wait_flag b s who id bits mode timeout ≡ waited_for_flag b s (caller who) at (record { bits = cast_unsigned w32 bits; mode = mode }) timeout (Some k)
unfolding wait_flag
flag_waited b s who id bits timeout mode at k known some proper limit allowed there joins =
    let named = named_if (within 1 64 id) (natural id) at known in
    let inside : within 1 64 id ≡ true = named.0 in
    let here : flag_at s (natural id) ≡ Some k = ap (flag_at s) named.1 ∙ there in
    let free : may_join b (natural id) (Some k) ≡ true = ap (λ n. may_join b n (Some k)) named.1 ∙ joins in
    rw (inside, some, proper, limit, allowed, here, free) (ap (λ n. waited_for_flag b s (caller who) n (wish bits mode) timeout (Some k)) named.1)
