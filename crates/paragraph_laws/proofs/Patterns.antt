-- A clear gives a pattern no bits: no wish holds of what it leaves that didn't hold before.
use Rattle.std.proofs.Common.{◌≡◌, ℕ, ◌+◌, ◌<◌, Bool, true, false, not, refl, cond, ◌∙◌, ap, sym, arith}
use Rattle.std.specs.Prelude.{◌%◌, min, bit_and, bit_xor}
use Rattle.std.specs.Bool.{◌==◌}
use Rattle.std.specs.Int.{bit_at}
use Rattle.std.specs.Int.Bits.{and_self, and_zero_l, and_zero_r}
use Rattle.std.proofs.lemmas.Bool.Decides.{nat_tests}
use Rattle.std.proofs.lemmas.Nat.{and_assoc, and_comm}
use Rattle.std.proofs.lemmas.Nat.Bits.{bit_at_and, bit_at_xor, bit_at-lt, same_from_bits}
use Rattle.kernel_model.specs.declared.objects.FlagWish.{FlagWish}
use Rattle.kernel_model.specs.SemFlags.Tables.{cleared_by, has_bits}

-- a pattern has all bits of another one
abbrev IsPart : ℕ → ℕ → Type 0
IsPart part pattern = bit_and part pattern ≡ part

bit_kept : (a b : ℕ) → a < 2 → b < 2 → min ((a + min a b) % 2) a ≡ (a + min a b) % 2
bit_kept a b one two = omega (arith, one, two)

kept_part : (pattern bits : ℕ) → IsPart (bit_xor pattern (bit_and pattern bits)) pattern
kept_part pattern bits = same_from_bits (bit_and (bit_xor pattern (bit_and pattern bits)) pattern) (bit_xor pattern (bit_and pattern bits))
    (λ i. bit_at_and (bit_xor pattern (bit_and pattern bits)) pattern i
    ∙ ap (λ bit. min bit (bit_at pattern i)) (bit_at_xor pattern (bit_and pattern bits) i)
    ∙ ap (λ bit. min ((bit_at pattern i + bit) % 2) (bit_at pattern i)) (bit_at_and pattern bits i)
    ∙ bit_kept (bit_at pattern i) (bit_at bits i) (bit_at-lt pattern i) (bit_at-lt bits i)
    ∙ ap (λ bit. (bit_at pattern i + bit) % 2) (sym (bit_at_and pattern bits i))
    ∙ sym (bit_at_xor pattern (bit_and pattern bits) i))

cleared_if : (pattern bits : ℕ) (all some : Bool) → IsPart (cond all 0 (cond some (bit_xor pattern (bit_and pattern bits)) pattern)) pattern
cleared_if pattern bits true some = and_zero_l pattern
cleared_if pattern bits false true = kept_part pattern bits
cleared_if pattern bits false false = and_self pattern

all_fail : (part pattern bits : ℕ) (test : Bool) → IsPart part pattern → (bit_and part bits == bits) ≡ test → (bit_and pattern bits == bits) ≡ false → test ≡ false
all_fail part pattern bits false is has fails = refl
all_fail part pattern bits true is has fails =
    let there : bit_and part bits ≡ bits = grind (arith, nat_tests, has) in
    let more : bit_and pattern bits ≡ bits =
    ap (bit_and pattern) (sym there) ∙ sym (and_assoc bits pattern part) ∙ ap (λ both. bit_and both bits) (and_comm pattern part ∙ is) ∙ there in
    grind (arith, nat_tests, more, fails)

none_there : (part pattern bits : ℕ) → IsPart part pattern → bit_and pattern bits ≡ 0 → bit_and part bits ≡ 0
none_there part pattern bits is none = ap (λ both. bit_and both bits) (sym is) ∙ and_assoc bits part pattern ∙ ap (bit_and part) none ∙ and_zero_r part

one_fails : (part pattern bits : ℕ) → IsPart part pattern → not (bit_and pattern bits == 0) ≡ false → not (bit_and part bits == 0) ≡ false
one_fails part pattern bits is fails =
    let none : bit_and pattern bits ≡ 0 = grind (arith, nat_tests, fails) in
    let less : bit_and part bits ≡ 0 = none_there part pattern bits is none in
    grind (arith, nat_tests, less)

part_fails : (part pattern bits : ℕ) (every : Bool) → IsPart part pattern → cond every (bit_and pattern bits == bits) (not (bit_and pattern bits == 0)) ≡ false →
    cond every (bit_and part bits == bits) (not (bit_and part bits == 0)) ≡ false
part_fails part pattern bits true is fails = all_fail part pattern bits (bit_and part bits == bits) is refl fails
part_fails part pattern bits false is fails = one_fails part pattern bits is fails

-- a wish that doesn't hold of a pattern doesn't after the clear of any wish
pub cleared_fails : (done : FlagWish) (pattern : ℕ) (wish : FlagWish) → has_bits pattern wish ≡ false → has_bits (cleared_by done pattern) wish ≡ false
cleared_fails done pattern wish fails =
    part_fails (cleared_by done pattern) pattern wish.bits wish.mode.twf_andw (cleared_if pattern done.bits done.mode.twf_clr done.mode.twf_bitclr) fails
