-- The set of labels beside a body that grows.
use Rattle.std.proofs.Common.{◌≡◌, ◌∙◌, refl, sym, ap, subst, ℕ, Bool, true, false, cond, ◌||◌, List, [], ◌∷◌, ◌++◌, Vec, Global}
use Rattle.std.specs.Cmp.Lexicographic.{nat_list_eq_equiv}
use Rattle.std.specs.HashSet.{HashSet, UpdatesBy, contains_by}
use Rattle.std.specs.Set.{KeepsOthers}
use Rattle.std.specs.Str.{bytes_eq}
use Rattle.std.proofs.lemmas.List.Folds.{list_any-append}
use Rattle.std.proofs.lemmas.Slice.Eq.{bytes_eq-Decides}
use Rattle.tk_raw.specs.declared.raw.RawItem.{RawItem}
use Rattle.tk_raw.specs.declared.raw.RawItem.TheVariants as items
use Rattle.tk_raw.specs.declared.raw.RawStmt.{RawStmt}
use Rattle.tk_raw.specs.RawReading.{label_taken, is_label}
use Rattle.tk_raw.specs.OpenBodies.{AreLabels}

-- one more line
taken_behind : (lines : List RawItem) (item : RawItem) (word : List ℕ) → label_taken (lines ++ item ∷ []) word ≡ (label_taken lines word || (is_label word item || false))
unfolding label_taken
taken_behind lines item word = list_any-append (is_label word) lines (item ∷ [])

-- the empty set
pub none_held : {S : Type 0} (labels : HashSet (Vec ℕ Global) S) → labels.keys ≡ [] → AreLabels labels []
unfolding label_taken
none_held labels empty word = rw empty refl

-- a statement adds no name
pub stmt_held : {S : Type 0} (labels : HashSet (Vec ℕ Global) S) (lines : List RawItem) (stmt : RawStmt) → AreLabels labels lines → AreLabels labels (lines ++ items.Stmt stmt ∷ [])
unfolding is_label
stmt_held labels lines stmt held word = held word ∙ sym (taken_behind lines (items.Stmt stmt) word ∙ or_false (label_taken lines word))
  where
    or_false : (b : Bool) → (b || (false || false)) ≡ b
    or_false true = refl
    or_false false = refl

-- the set with one more name
pub label_held : {S : Type 0} (labels grown : HashSet (Vec ℕ Global) S) (bytes : Vec ℕ Global) (name : List ℕ) (lines longer : List RawItem) → AreLabels labels lines → UpdatesBy (λ x y. bytes_eq x.items y.items) (λ key. bytes_eq bytes.items key.items) labels grown true → bytes.items ≡ name → longer ≡ lines ++ items.Label name ∷ [] → AreLabels grown longer
unfolding is_label KeepsOthers
label_held {S} labels grown bytes name lines longer held updates same more word =
    at_word (bytes_eq name word) refl ∙ (ap (cond (bytes_eq name word) true) (held word) ∙ (sym (turned (label_taken lines word) (bytes_eq name word)) ∙ sym (ap (λ (ls : List RawItem). label_taken ls word) more ∙ taken_behind lines (items.Label name) word)))
  where
    has : HashSet (Vec ℕ Global) S → List ℕ → Bool
    has names w = contains_by (λ key. bytes_eq w key.items) names

    here : has grown name ≡ true
    here = subst (λ (w : List ℕ). has grown w ≡ true) same updates.1

    apart : (key : List ℕ) → bytes_eq name word ≡ false → bytes_eq bytes.items key ≡ true → bytes_eq word key ≡ false
    apart key other is = nat_list_eq_equiv.symm word key ∙ (sym (nat_list_eq_equiv.congr bytes.items key word is) ∙ (ap (λ (w : List ℕ). bytes_eq w word) same ∙ other))

    at_word : (b : Bool) → bytes_eq name word ≡ b → has grown word ≡ cond b true (has labels word)
    at_word true is = subst (λ (w : List ℕ). has grown w ≡ true) ((bytes_eq-Decides name word).0 is) here
    at_word false other = updates.3 (λ key. bytes_eq word key.items) (λ x y. nat_list_eq_equiv.congr word x.items y.items) (λ key. apart key.items other)

    turned : (b c : Bool) → (b || (c || false)) ≡ cond c true b
    turned true true = refl
    turned true false = refl
    turned false true = refl
    turned false false = refl
