-- A pool is changed in its slot.
use Rattle.std.proofs.Common.{◌≡◌, ℕ, zero, suc, ◌<◌, false, List, [], ◌∷◌, Option, Some, None, refl, ap, sym, ◌∙◌, subst, arith, length, get_or, set}
use Rattle.std.proofs.lemmas.List.{set-get_or, length-set}
use Rattle.kernel_model.specs.Words.Orders.{entry}
use Rattle.kernel_lemmas.proofs.Tables.{entry_other}
use Rattle.object_model.specs.Pools.Tables.{FixedPool, VariablePool, Pools, fixed_at, variable_at}
use Rattle.object_model.specs.Pools.Fixed.{free_block}
use Rattle.object_model.specs.Pools.Variable.{place_in}
use Rattle.object_model.specs.Pools.Calls.{block_back, block_freed}
use Rattle.mem_pools.specs.Tables.{AreFreeFrom, AreTables}
use Rattle.mem_pools.specs.Taking.{block_given, block_out, bytes_given, live_at, with_block_out, with_live_at}

-- what stands at a place inside a table
pub slot_at : {A : Type 0} (slots : List (Option A)) (id : ℕ) (slot : Option A) → id < length slots → slot ≡ get_or slots id slot → get_or slots id None ≡ slot
slot_at [] id slot inside is = absurd (omega (arith, inside))
slot_at (x ∷ slots) zero slot inside is = sym is
slot_at (x ∷ slots) (suc id) slot inside is = slot_at slots id slot (omega (arith, inside)) is

pub entry_is : {A : Type 0} (slots : List (Option A)) (id : ℕ) (slot : Option A) → get_or slots id None ≡ slot → entry slots id ≡ slot
entry_is [] id slot is = is
entry_is (x ∷ slots) zero slot is = is
entry_is (x ∷ slots) (suc id) slot is = entry_is slots id slot is

-- a slot that is written as it stands
pub same_back : {A : Type 0} (slots : List (Option A)) (id : ℕ) (slot : Option A) → get_or slots id None ≡ slot → set slots id slot ≡ slots
same_back slots id slot is = ap (set slots id) (sym is) ∙ set-get_or slots id None

-- a slot that is taken is written anew
still_free : {A : Type 0} (used id : ℕ) (slots : List (Option A)) (k : A) (slot : Option A) → AreFreeFrom used slots → get_or slots id None ≡ Some k → AreFreeFrom used (set slots id slot)
still_free used id slots k slot old there = record {
  free = λ n from.
      entry_other slots id n slot (λ is. absurd (cc (entry_is slots id (Some k) there, subst (λ m. entry slots m ≡ None) is (old.free n from))))
      ∙ old.free n from;
}

pub fixed_rewritten : (fixed : List (Option FixedPool)) (variable : List (Option VariablePool)) (sizes : List ℕ) (fixed_used variable_used id : ℕ) (k : FixedPool) (slot : Option FixedPool) →
    AreTables fixed variable sizes fixed_used variable_used → get_or fixed id None ≡ Some k → AreTables (set fixed id slot) variable sizes fixed_used variable_used
fixed_rewritten fixed variable sizes fixed_used variable_used id k slot old there = record {
  all_fixed = length-set fixed id slot ∙ old.all_fixed;
  all_variable = old.all_variable;
  all_sizes = old.all_sizes;
  used_fixed = old.used_fixed;
  used_variable = old.used_variable;
  free_fixed = still_free fixed_used id fixed k slot old.free_fixed there;
  free_variable = old.free_variable;
  asked = old.asked;
}

pub variable_rewritten : (fixed : List (Option FixedPool)) (variable : List (Option VariablePool)) (sizes : List ℕ) (fixed_used variable_used id : ℕ) (k : VariablePool) (slot : Option VariablePool) →
    AreTables fixed variable sizes fixed_used variable_used → get_or variable id None ≡ Some k → AreTables fixed (set variable id slot) sizes fixed_used variable_used
variable_rewritten fixed variable sizes fixed_used variable_used id k slot old there = record {
  all_fixed = old.all_fixed;
  all_variable = length-set variable id slot ∙ old.all_variable;
  all_sizes = old.all_sizes;
  used_fixed = old.used_fixed;
  used_variable = old.used_variable;
  free_fixed = old.free_fixed;
  free_variable = still_free variable_used id variable k slot old.free_variable there;
  asked = old.asked;
}

-- ---- a fixed pool

abbrev pub fixed_put : Pools → ℕ → Option FixedPool → Pools
fixed_put m id slot = record m { fixed = set m.fixed id slot }

given_if : (m : Pools) (id : ℕ) (k : FixedPool) (number : ℕ) → get_or m.fixed id None ≡ Some k → fixed_put m id (Some (block_out number k)) ≡ with_block_out m id k number
given_if m id k zero there = ap (λ slots. record m { fixed = slots }) (same_back m.fixed id (Some k) there)
given_if m id k (suc before) there = refl

pub block_given_at : (m old : Pools) (id : ℕ) (k now : FixedPool) → m ≡ old → get_or m.fixed id None ≡ Some k → now ≡ block_out (free_block k) k → fixed_put m id (Some now) ≡ block_given old id (fixed_at old id)
block_given_at m old id k now same there moved =
    ap (λ one. fixed_put m id (Some one)) moved
    ∙ given_if m id k (free_block k) there
    ∙ ap (block_given m id) (sym (entry_is m.fixed id (Some k) there))
    ∙ ap (λ (table : Pools). block_given table id (fixed_at table id)) same

pub block_back_at : (m old : Pools) (id number : ℕ) (k now : FixedPool) → m ≡ old → get_or m.fixed id None ≡ Some k → now ≡ record k { out = set k.out number false } → fixed_put m id (Some now) ≡ block_back old id number (fixed_at old id)
block_back_at m old id number k now same there moved =
    ap (λ one. fixed_put m id (Some one)) moved
    ∙ ap (block_back m id number) (sym (entry_is m.fixed id (Some k) there))
    ∙ ap (λ (table : Pools). block_back table id number (fixed_at table id)) same

pub no_fixed_given : (m old : Pools) (id : ℕ) (slot : Option FixedPool) → m ≡ old → get_or m.fixed id None ≡ slot → slot ≡ None → fixed_put m id slot ≡ block_given old id (fixed_at old id)
no_fixed_given m old id slot same there none =
    ap (λ slots. record m { fixed = slots }) (same_back m.fixed id slot there)
    ∙ ap (block_given m id) (sym (entry_is m.fixed id slot there ∙ none))
    ∙ ap (λ (table : Pools). block_given table id (fixed_at table id)) same

pub no_fixed_back : (m old : Pools) (id number : ℕ) (slot : Option FixedPool) → m ≡ old → get_or m.fixed id None ≡ slot → slot ≡ None → fixed_put m id slot ≡ block_back old id number (fixed_at old id)
no_fixed_back m old id number slot same there none =
    ap (λ slots. record m { fixed = slots }) (same_back m.fixed id slot there)
    ∙ ap (block_back m id number) (sym (entry_is m.fixed id slot there ∙ none))
    ∙ ap (λ (table : Pools). block_back table id number (fixed_at table id)) same

-- ---- a variable pool

abbrev pub variable_put : Pools → ℕ → Option VariablePool → Pools
variable_put m id slot = record m { variable = set m.variable id slot }

live_if : (m : Pools) (id n : ℕ) (k : VariablePool) (place : Option ℕ) → get_or m.variable id None ≡ Some k → variable_put m id (Some (live_at place n k)) ≡ with_live_at m id k n place
live_if m id n k None there = ap (λ slots. record m { variable = slots }) (same_back m.variable id (Some k) there)
live_if m id n k (Some offset) there = refl

pub bytes_given_at : (m old : Pools) (id n : ℕ) (k now : VariablePool) → m ≡ old → get_or m.variable id None ≡ Some k → now ≡ live_at (place_in k n) n k → variable_put m id (Some now) ≡ bytes_given old id n (variable_at old id)
bytes_given_at m old id n k now same there moved =
    ap (λ one. variable_put m id (Some one)) moved
    ∙ live_if m id n k (place_in k n) there
    ∙ ap (bytes_given m id n) (sym (entry_is m.variable id (Some k) there))
    ∙ ap (λ (table : Pools). bytes_given table id n (variable_at table id)) same

pub bytes_back_at : (m old : Pools) (id offset : ℕ) (k now : VariablePool) → m ≡ old → get_or m.variable id None ≡ Some k → variable_put m id (Some now) ≡ block_freed m id offset (Some k) → variable_put m id (Some now) ≡ block_freed old id offset (variable_at old id)
bytes_back_at m old id offset k now same there moved =
    moved
    ∙ ap (block_freed m id offset) (sym (entry_is m.variable id (Some k) there))
    ∙ ap (λ (table : Pools). block_freed table id offset (variable_at table id)) same

pub no_bytes_given : (m old : Pools) (id n : ℕ) (slot : Option VariablePool) → m ≡ old → get_or m.variable id None ≡ slot → slot ≡ None → variable_put m id slot ≡ bytes_given old id n (variable_at old id)
no_bytes_given m old id n slot same there none =
    ap (λ slots. record m { variable = slots }) (same_back m.variable id slot there)
    ∙ ap (bytes_given m id n) (sym (entry_is m.variable id slot there ∙ none))
    ∙ ap (λ (table : Pools). bytes_given table id n (variable_at table id)) same

pub no_bytes_back : (m old : Pools) (id offset : ℕ) (slot : Option VariablePool) → m ≡ old → get_or m.variable id None ≡ slot → slot ≡ None → variable_put m id slot ≡ block_freed old id offset (variable_at old id)
no_bytes_back m old id offset slot same there none =
    ap (λ slots. record m { variable = slots }) (same_back m.variable id slot there)
    ∙ ap (block_freed m id offset) (sym (entry_is m.variable id slot there ∙ none))
    ∙ ap (λ (table : Pools). block_freed table id offset (variable_at table id)) same
