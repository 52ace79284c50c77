-- Open descriptors are those of devices.
use Rattle.std.proofs.Common.{◌≡◌, ℕ, zero, suc, ◌≤◌, List, [], ◌∷◌, Option, Some, None, refl, sym, subst, ◌∙◌}
use Rattle.std.specs.Prelude.{IfSome, replicate, slice_set}
use Rattle.std.specs.List.{slice_index_or}
use Rattle.std.proofs.lemmas.List.{length-set}
use Rattle.kernel_model.specs.Words.Orders.{entry}
use Rattle.kernel_lemmas.proofs.Tables.{entry_each, entry_same}
use Rattle.device_model.specs.declared.rows.Opened.{Opened}
use Rattle.device_model.specs.declared.rows.Wish.{Wish}
use Rattle.device_model.specs.declared.rows.Wish.TheVariants as wish
use Rattle.dev_layer.specs.Tables.{AreTables, HasDescriptor, IsOpened, IsWish}

pub opened_written : (buffers : List ℕ) (opened : List (Option Opened)) (wishes : List Wish) (dd : ℕ) (slot : Option Opened) → AreTables buffers opened wishes → IsOpened slot → AreTables buffers (slice_set opened dd slot) wishes
opened_written buffers opened wishes dd slot are fits = record {
  all_buffers = are.all_buffers;
  all_opened = length-set opened dd slot ∙ are.all_opened;
  all_wishes = are.all_wishes;
  fit = entry_each (λ n o. IsOpened o) opened dd slot (entry_same IsOpened opened dd slot fits tt) (λ n apart. are.fit n);
  wished = are.wished;
}

-- what stands at a place of a list that is written, where it stands so of what is written and of the list
each_written : (P : Wish → Type 0) (xs : List Wish) (i : ℕ) (y : Wish) → P y → ((j : ℕ) → P (slice_index_or xs j wish.Nothing)) → (j : ℕ) → P (slice_index_or (slice_set xs i y) j wish.Nothing)
each_written P [] i y written all j = all j
each_written P (x ∷ xs) zero y written all zero = written
each_written P (x ∷ xs) zero y written all (suc j) = all (suc j)
each_written P (x ∷ xs) (suc i) y written all zero = all zero
each_written P (x ∷ xs) (suc i) y written all (suc j) = each_written P xs i y written (λ n. all (suc n)) j

-- a task asks for something inside the script's memory
pub wish_written : (buffers : List ℕ) (opened : List (Option Opened)) (wishes : List Wish) (t : ℕ) (asked_for : Wish) → AreTables buffers opened wishes → IsWish asked_for → AreTables buffers opened (slice_set wishes t asked_for)
wish_written buffers opened wishes t asked_for are fits = record {
  all_buffers = are.all_buffers;
  all_opened = are.all_opened;
  all_wishes = length-set wishes t asked_for ∙ are.all_wishes;
  fit = are.fit;
  wished = each_written IsWish wishes t asked_for fits are.wished;
}

nothing_asked : (n t : ℕ) → IsWish (slice_index_or (replicate n wish.Nothing) t wish.Nothing)
nothing_asked zero t = tt
nothing_asked (suc n) zero = tt
nothing_asked (suc n) (suc t) = nothing_asked n t

pub none_wished : (wishes : List Wish) → wishes ≡ replicate 256 wish.Nothing → (t : ℕ) → IsWish (slice_index_or wishes t wish.Nothing)
none_wished wishes is t = subst (λ (all : List Wish). IsWish (slice_index_or all t wish.Nothing)) (sym is) (nothing_asked 256 t)

of_descriptor : (asked_for : Wish) → IsWish asked_for → HasDescriptor asked_for
of_descriptor (wish.Acceptance transfer stays) is = is.descriptor_small
of_descriptor wish.Nothing is = tt
of_descriptor (wish.Ending id serial own) is = tt
of_descriptor wish.AnyEnding is = tt

-- all wishes for acceptances are of descriptors
pub all_wished : (buffers : List ℕ) (opened : List (Option Opened)) (wishes : List Wish) → AreTables buffers opened wishes → (t : ℕ) → HasDescriptor (slice_index_or wishes t wish.Nothing)
all_wished buffers opened wishes are t = of_descriptor (slice_index_or wishes t wish.Nothing) (are.wished t)

none_open : (n id : ℕ) → entry (replicate {A = Option Opened} n None) id ≡ None
none_open zero id = refl
none_open (suc n) zero = refl
none_open (suc n) (suc id) = none_open n id

pub none_fit : (opened : List (Option Opened)) → opened ≡ replicate 33 None → (n : ℕ) → IsOpened (entry opened n)
none_fit opened is n = subst (λ (slots : List (Option Opened)). IsOpened (entry slots n)) (sym is) (subst IsOpened (sym (none_open 33 n)) tt)

low_of : (slot : Option Opened) → IsOpened slot → IfSome slot (λ opened. 1 ≤ opened.device)
low_of None fits = tt
low_of (Some opened) fits = fits.0

high_of : (slot : Option Opened) → IsOpened slot → IfSome slot (λ opened. opened.device ≤ 8)
high_of None fits = tt
high_of (Some opened) fits = fits.1

pub low_at : (buffers : List ℕ) (opened : List (Option Opened)) (wishes : List Wish) (dd : ℕ) (slot : Option Opened) → AreTables buffers opened wishes → entry opened dd ≡ slot → IfSome slot (λ opened. 1 ≤ opened.device)
low_at buffers opened wishes dd slot are is = low_of slot (subst IsOpened is (are.fit dd))

pub high_at : (buffers : List ℕ) (opened : List (Option Opened)) (wishes : List Wish) (dd : ℕ) (slot : Option Opened) → AreTables buffers opened wishes → entry opened dd ≡ slot → IfSome slot (λ opened. opened.device ≤ 8)
high_at buffers opened wishes dd slot are is = high_of slot (subst IsOpened is (are.fit dd))
