-- A line that is read is the next line of what was read.
use Rattle.std.proofs.Common.{◌≡◌, ◌∙◌, refl, sym, ap, subst, arith, inl, inr, ℕ, suc, ◌<◌, ◌≤◌, true, false, not, cond, eqb, ◌&&◌, List, [], ◌∷◌, ◌++◌, length, length-append, map, Option, Some, None, Result, Ok}
use Rattle.std.specs.Prelude.{bytes_eq, codes, nat_lt, ◌⊎◌}
use Rattle.std.specs.List.{AllByRecursion}
use Rattle.std.specs.Option.{is_some}
use Rattle.std.proofs.lemmas.List.{append-nil}
use Rattle.std.proofs.lemmas.Bool.{ltb-true, eqb-true}
use Rattle.std.proofs.lemmas.Slice.Eq.{bytes_eq-Decides}
use Rattle.tk_types.specs.declared.script.Device.{Device}
use Rattle.tk_types.specs.declared.why.Why.{Why}
use Rattle.tk_types.specs.declared.why.Why.TheVariants as whys
use Rattle.tk_model.specs.ScriptText.{body_kind_word, all_differ, IsName, IsDevice}
use Rattle.tk_raw.specs.declared.builder.Builder.{Builder}
use Rattle.tk_raw.specs.declared.raw.RawBody.{RawBody}
use Rattle.tk_raw.specs.declared.raw.RawBoot.{RawBoot}
use Rattle.tk_raw.specs.declared.raw.RawItem.{RawItem}
use Rattle.tk_raw.specs.declared.raw.RawItem.TheVariants as items
use Rattle.tk_raw.specs.Pieces.{◌>>=◌, raw_stmt_at}
use Rattle.tk_raw.specs.RawText.{raw_item_words, open_body_lines, device_names, body_names, label_names, FitsItem, IsRawBody}
use Rattle.tk_raw.specs.RawReading.{device_taken, body_taken, label_taken, is_label, device_at, pace_at, irq_at, boot_at, body_at, label_at, takes_device, takes_pace, takes_irq, takes_boot, takes_body, device_line, pace_line, irq_line, boot_line, body_line, end_line, label_line, stmt_line, outside, inside, with_item, step_in, without_current, step}
use Rattle.tk_raw.proofs.Results.{bind_ok, fine, ok_is, passed, went, both_true, false_of_not, none_of}
use Rattle.tk_raw.proofs.Differing.{among, differ_grown, steps_grown, least_is_last, last_step, all_grown, map_behind, any_mapped}
use Rattle.tk_raw.proofs.HeaderLaws.{device_takes, pace_takes, irq_takes, boot_takes, body_takes, label_takes}
use Rattle.tk_raw.proofs.StatementLaws.{statement_takes}
use Rattle.tk_raw.proofs.Built.{Line, IsBuilt, InOrder, built_lines, built_names, opened, current_names, device_grows, pace_grows, irq_grows, boot_grows, current_grows, item_grows, end_grows}

-- what a line makes of what was read: its next line
pub record Grown (before : List Line) (line : Line) (new : Builder) : Type 0 where
  pub built : IsBuilt new
  pub lines : built_lines new ≡ before ++ line ∷ []

empty_of : {X : Type 0} (xs : List X) → eqb (length xs) 0 ≡ true → xs ≡ []
empty_of [] e = refl
empty_of (x ∷ xs) e = absurd (let n = eqb-true (length (x ∷ xs)) 0 e in omega (arith, n))

longer : {X : Type 0} (most : ℕ) (xs : List X) (x : X) → length xs < most → length (xs ++ x ∷ []) ≤ most
longer most xs x lt = omega (arith, length-append xs (x ∷ []), lt)

-- before the boot line there is no body
no_bodies : (b : Builder) → IsBuilt b → b.boot ≡ None → (b.bodies ≡ []) × (b.current ≡ None)
no_bodies b is no_boot = subst (λ (o : Option RawBoot). InOrder o b.bodies b.current) no_boot is.order

device_grown : (b : Builder) (words : Line) (new : Builder) → IsBuilt b → device_line b words ≡ Ok new → Grown (built_lines b) (codes "device" ∷ words) new
unfolding device_line takes_device device_taken
device_grown b words new is e =
    let p = passed (takes_device b) (device_at b.devices words >>= λ device. fine (record b { devices = b.devices ++ device ∷ [] })) whys.Order new e in
    let t = both_true (not (is_some b.boot)) (not (is_some b.pace) && (eqb (length b.irqs) 0 && nat_lt (length b.devices) 8)) p.0 in
    let u = both_true (not (is_some b.pace)) (eqb (length b.irqs) 0 && nat_lt (length b.devices) 8) t.1 in
    let v = both_true (eqb (length b.irqs) 0) (nat_lt (length b.devices) 8) u.1 in
    let no_boot = none_of b.boot (false_of_not (is_some b.boot) t.0) in
    let no_pace = none_of b.pace (false_of_not (is_some b.pace) u.0) in
    let no_body = no_bodies b is no_boot in
    let d = bind_ok (device_at b.devices words) (λ device. fine (record b { devices = b.devices ++ device ∷ [] })) new p.1 in
    let taken = device_takes b.devices words d.0 d.1 in
    let new_one : among (device_names b.devices) (d.0).name ≡ false = sym (any_mapped (λ (x : Device). x.name) (d.0).name b.devices) ∙ taken.new in
    subst (Grown (built_lines b) (codes "device" ∷ words)) (ok_is (record b { devices = b.devices ++ d.0 ∷ [] }) new d.2)
    (record {
      built = record {
        few_devices = longer 8 b.devices d.0 (ltb-true (length b.devices) 8 v.1);
        devices = all_grown IsDevice b.devices d.0 is.devices taken.is;
        devices_differ = ap all_differ (map_behind (λ (x : Device). x.name) b.devices d.0) ∙ differ_grown (device_names b.devices) (d.0).name is.devices_differ new_one;
        pace = is.pace;
        few_irqs = is.few_irqs;
        irqs = is.irqs;
        boot = is.boot;
        few_bodies = is.few_bodies;
        bodies_differ = is.bodies_differ;
        bodies = is.bodies;
        current = is.current;
        order = is.order;
      };
      lines = device_grows b d.0 no_pace (empty_of b.irqs v.0) no_boot no_body.0 no_body.1 ∙ ap (λ (l : Line). built_lines b ++ l ∷ []) taken.spelled;
    })

pace_grown : (b : Builder) (words : Line) (new : Builder) → IsBuilt b → pace_line b words ≡ Ok new → Grown (built_lines b) (codes "pace" ∷ words) new
unfolding pace_line takes_pace
pace_grown b words new is e =
    let p = passed (takes_pace b) (pace_at words >>= λ pace. fine (record b { pace = Some pace })) whys.Order new e in
    let t = both_true (not (is_some b.boot)) (not (is_some b.pace) && eqb (length b.irqs) 0) p.0 in
    let u = both_true (not (is_some b.pace)) (eqb (length b.irqs) 0) t.1 in
    let no_boot = none_of b.boot (false_of_not (is_some b.boot) t.0) in
    let no_pace = none_of b.pace (false_of_not (is_some b.pace) u.0) in
    let no_body = no_bodies b is no_boot in
    let d = bind_ok (pace_at words) (λ pace. fine (record b { pace = Some pace })) new p.1 in
    let taken = pace_takes words d.0 d.1 in
    subst (Grown (built_lines b) (codes "pace" ∷ words)) (ok_is (record b { pace = Some d.0 }) new d.2)
    (record {
      built = record {
        few_devices = is.few_devices;
        devices = is.devices;
        devices_differ = is.devices_differ;
        pace = taken.1;
        few_irqs = is.few_irqs;
        irqs = is.irqs;
        boot = is.boot;
        few_bodies = is.few_bodies;
        bodies_differ = is.bodies_differ;
        bodies = is.bodies;
        current = is.current;
        order = is.order;
      };
      lines = pace_grows b d.0 no_pace (empty_of b.irqs u.1) no_boot no_body.0 no_body.1 ∙ ap (λ (l : Line). built_lines b ++ (codes "pace" ∷ l) ∷ []) taken.0;
    })

irq_grown : (b : Builder) (words : Line) (new : Builder) → IsBuilt b → irq_line b words ≡ Ok new → Grown (built_lines b) (codes "irq" ∷ words) new
unfolding irq_line takes_irq
irq_grown b words new is e =
    let p = passed (takes_irq b) (irq_at b.irqs words >>= λ irq. fine (record b { irqs = b.irqs ++ irq ∷ [] })) whys.Order new e in
    let t = both_true (not (is_some b.boot)) (nat_lt (length b.irqs) 1024) p.0 in
    let no_boot = none_of b.boot (false_of_not (is_some b.boot) t.0) in
    let no_body = no_bodies b is no_boot in
    let d = bind_ok (irq_at b.irqs words) (λ irq. fine (record b { irqs = b.irqs ++ irq ∷ [] })) new p.1 in
    let taken = irq_takes b.irqs words d.0 d.1 in
    let from : last_step 1 b.irqs ≤ (d.0).step = subst (λ (n : ℕ). n ≤ (d.0).step) (least_is_last b.irqs) taken.from in
    subst (Grown (built_lines b) (codes "irq" ∷ words)) (ok_is (record b { irqs = b.irqs ++ d.0 ∷ [] }) new d.2)
    (record {
      built = record {
        few_devices = is.few_devices;
        devices = is.devices;
        devices_differ = is.devices_differ;
        pace = is.pace;
        few_irqs = longer 1024 b.irqs d.0 (ltb-true (length b.irqs) 1024 t.1);
        irqs = steps_grown 1 b.irqs d.0 is.irqs from taken.to taken.number;
        boot = is.boot;
        few_bodies = is.few_bodies;
        bodies_differ = is.bodies_differ;
        bodies = is.bodies;
        current = is.current;
        order = is.order;
      };
      lines = irq_grows b d.0 no_boot no_body.0 no_body.1 ∙ ap (λ (l : Line). built_lines b ++ l ∷ []) taken.spelled;
    })

boot_grown : (b : Builder) (words : Line) (new : Builder) → IsBuilt b → boot_line b words ≡ Ok new → Grown (built_lines b) (codes "boot" ∷ words) new
unfolding boot_line takes_boot
boot_grown b words new is e =
    let p = passed (takes_boot b) (boot_at words >>= λ boot. fine (record b { boot = Some boot })) whys.Order new e in
    let no_boot = none_of b.boot (false_of_not (is_some b.boot) p.0) in
    let no_body = no_bodies b is no_boot in
    let d = bind_ok (boot_at words) (λ boot. fine (record b { boot = Some boot })) new p.1 in
    let taken = boot_takes words d.0 d.1 in
    subst (Grown (built_lines b) (codes "boot" ∷ words)) (ok_is (record b { boot = Some d.0 }) new d.2)
    (record {
      built = record {
        few_devices = is.few_devices;
        devices = is.devices;
        devices_differ = is.devices_differ;
        pace = is.pace;
        few_irqs = is.few_irqs;
        irqs = is.irqs;
        boot = taken.1;
        few_bodies = is.few_bodies;
        bodies_differ = is.bodies_differ;
        bodies = is.bodies;
        current = is.current;
        order = tt;
      };
      lines = boot_grows b d.0 no_boot no_body.0 no_body.1 ∙ ap (λ (l : Line). built_lines b ++ l ∷ []) taken.0;
    })

begun : (body : RawBody) → body.items ≡ [] → IsName 16 body.name → IsRawBody body
unfolding label_names all_differ
begun body empty name = record {
  name = name;
  labels_differ = ap (λ (ls : List RawItem). all_differ (label_names ls)) empty;
  items = subst (AllByRecursion FitsItem) (sym empty) tt;
}

begun_lines : (body : RawBody) → body.items ≡ [] → open_body_lines body ≡ (codes "body" ∷ body.name ∷ body_kind_word body.kind ∷ []) ∷ []
unfolding open_body_lines
begun_lines body empty = ap (λ (ls : List RawItem). (codes "body" ∷ body.name ∷ body_kind_word body.kind ∷ []) ∷ map raw_item_words ls) empty

in_order_with : (o : Option RawBoot) (bodies : List RawBody) (current : Option RawBody) → is_some o ≡ true → InOrder o bodies current
in_order_with None bodies current e = absurd (cc)
in_order_with (Some boot) bodies current e = tt

-- the names of the bodies where no body is open
pub closed_names : (b : Builder) → b.current ≡ None → built_names b ≡ body_names b.bodies
closed_names b closed = ap (λ (o : Option RawBody). body_names b.bodies ++ current_names o) closed ∙ append-nil (body_names b.bodies)

pub names_of : (bodies : List RawBody) → length (body_names bodies) ≡ length bodies
names_of [] = refl
names_of (body ∷ bodies) = ap suc (names_of bodies)

body_grown : (b : Builder) (words : Line) (new : Builder) → IsBuilt b → b.current ≡ None → body_line b words ≡ Ok new → Grown (built_lines b) (codes "body" ∷ words) new
unfolding body_line takes_body body_taken
body_grown b words new is closed e =
    let p = passed (takes_body b) (body_at b.bodies words >>= λ body. fine (record b { current = Some body })) whys.Order new e in
    let t = both_true (is_some b.boot) (nat_lt (length b.bodies) 255) p.0 in
    let few = ltb-true (length b.bodies) 255 t.1 in
    let d = bind_ok (body_at b.bodies words) (λ body. fine (record b { current = Some body })) new p.1 in
    let taken = body_takes b.bodies words d.0 d.1 in
    let new_one : among (body_names b.bodies) (d.0).name ≡ false = sym (any_mapped (λ (x : RawBody). x.name) (d.0).name b.bodies) ∙ taken.new in
    let differ : all_differ (body_names b.bodies) ≡ true = ap all_differ (sym (closed_names b closed)) ∙ is.bodies_differ in
    let same : b ≡ record b { current = None } = λ i. record b { current = closed i } in
    subst (Grown (built_lines b) (codes "body" ∷ words)) (ok_is (record b { current = Some d.0 }) new d.2)
    (record {
      built = record {
        few_devices = is.few_devices;
        devices = is.devices;
        devices_differ = is.devices_differ;
        pace = is.pace;
        few_irqs = is.few_irqs;
        irqs = is.irqs;
        boot = is.boot;
        few_bodies = longer 255 (body_names b.bodies) (d.0).name (subst (λ (n : ℕ). n < 255) (sym (names_of b.bodies)) few);
        bodies_differ = differ_grown (body_names b.bodies) (d.0).name differ new_one;
        bodies = is.bodies;
        current = begun d.0 taken.empty taken.name;
        order = in_order_with b.boot b.bodies (Some d.0) t.0;
      };
      lines = current_grows b None (Some d.0) (codes "body" ∷ words) (begun_lines d.0 taken.empty ∙ ap (λ (l : Line). l ∷ []) taken.spelled) ∙ ap (λ (x : Builder). built_lines x ++ (codes "body" ∷ words) ∷ []) (sym same);
    })

-- one word or another begins the line
by_first : (P : List ℕ → Type 0) (first text : List ℕ) (here rest : Result Builder Why) (new : Builder) → (here ≡ Ok new → P text) → (rest ≡ Ok new → P first) → cond (bytes_eq first text) here rest ≡ Ok new → P first
by_first P first text here rest new is later e =
    let by : ((bytes_eq first text ≡ true) × (here ≡ Ok new)) ⊎ ((bytes_eq first text ≡ false) × (rest ≡ Ok new)) → P first = λ way. elim way as (λ _. P first)
    [ inl one ↦ subst P (sym ((bytes_eq-Decides first text).0 one.0)) (is one.1) | inr other ↦ later other.1 ]
    in by (went (bytes_eq first text) here rest (Ok new) e)

outside_grown : (b : Builder) (first : List ℕ) (words : Line) (new : Builder) → IsBuilt b → b.current ≡ None → outside b first words ≡ Ok new → Grown (built_lines b) (first ∷ words) new
unfolding outside
outside_grown b first words new is closed e =
    let P : List ℕ → Type 0 = λ word. Grown (built_lines b) (word ∷ words) new in
    by_first P first (codes "device") (device_line b words) _ new (device_grown b words new is)
    (by_first P first (codes "pace") (pace_line b words) _ new (pace_grown b words new is)
    (by_first P first (codes "irq") (irq_line b words) _ new (irq_grown b words new is)
    (by_first P first (codes "boot") (boot_line b words) _ new (boot_grown b words new is)
    (by_first P first (codes "body") (body_line b words) _ new (body_grown b words new is closed) (λ bad. absurd (cc)))))) e

end_grown : (b : Builder) (body : RawBody) (words : Line) (new : Builder) → IsBuilt (opened b body) → end_line b body words ≡ Ok new → Grown (built_lines (opened b body)) (codes "end" ∷ words) new
unfolding end_line
end_grown b body [] new is e =
    let names : body_names (b.bodies ++ body ∷ []) ++ [] ≡ body_names b.bodies ++ body.name ∷ [] = append-nil (body_names (b.bodies ++ body ∷ [])) ∙ map_behind (λ (x : RawBody). x.name) b.bodies body in
    subst (Grown (built_lines (opened b body)) (codes "end" ∷ [])) (ok_is (record b { bodies = b.bodies ++ body ∷ []; current = None }) new e)
    (record {
      built = record {
        few_devices = is.few_devices;
        devices = is.devices;
        devices_differ = is.devices_differ;
        pace = is.pace;
        few_irqs = is.few_irqs;
        irqs = is.irqs;
        boot = is.boot;
        few_bodies = subst (λ (ns : List (List ℕ)). length ns ≤ 255) (sym names) is.few_bodies;
        bodies_differ = ap all_differ names ∙ is.bodies_differ;
        bodies = all_grown IsRawBody b.bodies body is.bodies is.current;
        current = tt;
        order = ended_in_order b.boot is.order;
      };
      lines = end_grows b body;
    })
  where
    ended_in_order : (o : Option RawBoot) → InOrder o b.bodies (Some body) → InOrder o (b.bodies ++ body ∷ []) None
    ended_in_order None order = absurd (let bad = order.1 in cc)
    ended_in_order (Some boot) order = tt
end_grown b body (word ∷ words) new is e = absurd (cc)

pub label_names_behind : (front back : List RawItem) → label_names (front ++ back) ≡ label_names front ++ label_names back
unfolding label_names
label_names_behind [] back = refl
label_names_behind (items.Label name ∷ front) back = ap (λ (ns : List (List ℕ)). name ∷ ns) (label_names_behind front back)
label_names_behind (items.Stmt stmt ∷ front) back = label_names_behind front back

pub taken_among : (lines : List RawItem) (word : List ℕ) → label_taken lines word ≡ among (label_names lines) word
unfolding label_taken label_names is_label
taken_among [] word = refl
taken_among (items.Label name ∷ lines) word = rw (taken_among lines word) refl
taken_among (items.Stmt stmt ∷ lines) word = taken_among lines word

-- a body with one line more
with_one : (b : Builder) (body : RawBody) (item : RawItem) (line : Line) → IsBuilt (opened b body) → FitsItem item → all_differ (label_names (body.items ++ item ∷ [])) ≡ true → raw_item_words item ≡ line → Grown (built_lines (opened b body)) line (opened b (with_item body item))
with_one b body item line is fits differ spelled = record {
  built = record {
    few_devices = is.few_devices;
    devices = is.devices;
    devices_differ = is.devices_differ;
    pace = is.pace;
    few_irqs = is.few_irqs;
    irqs = is.irqs;
    boot = is.boot;
    few_bodies = is.few_bodies;
    bodies_differ = is.bodies_differ;
    bodies = is.bodies;
    current = record { name = (is.current).name; labels_differ = differ; items = all_grown FitsItem body.items item (is.current).items fits };
    order = still b.boot is.order;
  };
  lines = current_grows b (Some body) (Some (with_item body item)) line (item_grows body item ∙ ap (λ (l : Line). open_body_lines body ++ l ∷ []) spelled);
}
  where
    still : (o : Option RawBoot) → InOrder o b.bodies (Some body) → InOrder o b.bodies (Some (with_item body item))
    still None order = absurd (let bad = order.1 in cc)
    still (Some boot) order = tt

label_grown : (b : Builder) (body : RawBody) (words : Line) (new : Builder) → IsBuilt (opened b body) → label_line b body words ≡ Ok new → Grown (built_lines (opened b body)) (codes "label" ∷ words) new
unfolding label_line raw_item_words FitsItem label_names
label_grown b body words new is e =
    let d = bind_ok (label_at body.items words) (λ name. fine (opened b (with_item body (items.Label name)))) new e in
    let t = label_takes body.items words d.0 d.1 in
    let new_one : among (label_names body.items) d.0 ≡ false = sym (taken_among body.items d.0) ∙ t.2 in
    let differ : all_differ (label_names (body.items ++ items.Label d.0 ∷ [])) ≡ true = ap all_differ (label_names_behind body.items (items.Label d.0 ∷ [])) ∙ differ_grown (label_names body.items) d.0 (is.current).labels_differ new_one in
    subst (Grown (built_lines (opened b body)) (codes "label" ∷ words)) (ok_is (opened b (with_item body (items.Label d.0))) new d.2)
    (with_one b body (items.Label d.0) (codes "label" ∷ words) is t.1 differ (ap (λ (l : Line). codes "label" ∷ l) t.0))

stmt_grown : (b : Builder) (body : RawBody) (first : List ℕ) (words : Line) (new : Builder) → IsBuilt (opened b body) → stmt_line b body first words ≡ Ok new → Grown (built_lines (opened b body)) (first ∷ words) new
unfolding stmt_line raw_item_words label_names
stmt_grown b body first words new is e =
    let d = bind_ok (raw_stmt_at first words) (λ stmt. fine (opened b (with_item body (items.Stmt stmt)))) new e in
    let t = statement_takes first words d.0 d.1 in
    let differ : all_differ (label_names (body.items ++ items.Stmt d.0 ∷ [])) ≡ true = ap all_differ (label_names_behind body.items (items.Stmt d.0 ∷ []) ∙ append-nil (label_names body.items)) ∙ (is.current).labels_differ in
    subst (Grown (built_lines (opened b body)) (first ∷ words)) (ok_is (opened b (with_item body (items.Stmt d.0))) new d.2)
    (with_one b body (items.Stmt d.0) (first ∷ words) is t.1 differ t.0)

inside_grown : (b : Builder) (body : RawBody) (first : List ℕ) (words : Line) (new : Builder) → IsBuilt (opened b body) → inside b body first words ≡ Ok new → Grown (built_lines (opened b body)) (first ∷ words) new
unfolding inside
inside_grown b body first words new is e =
    let P : List ℕ → Type 0 = λ word. Grown (built_lines (opened b body)) (word ∷ words) new in
    by_first P first (codes "end") (end_line b body words) _ new (end_grown b body words new is)
    (by_first P first (codes "label") (label_line b body words) _ new (label_grown b body words new is)
    (stmt_grown b body first words new is)) e

in_state : (b : Builder) (current : Option RawBody) (first : List ℕ) (words : Line) (new : Builder) → IsBuilt (record b { current = current }) → step_in current (without_current b) first words ≡ Ok new → Grown (built_lines (record b { current = current })) (first ∷ words) new
in_state b None first words new is e = outside_grown (without_current b) first words new is refl e
in_state b (Some body) first words new is e = inside_grown (without_current b) body first words new is e

-- each line that is read is the next line of what was read
pub step_takes : (b : Builder) (first : List ℕ) (words : Line) (new : Builder) → IsBuilt b → step b first words ≡ Ok new → Grown (built_lines b) (first ∷ words) new
unfolding step
step_takes b first words new is e = in_state b b.current first words new is e
