-- Bodies and scripts, with their names looked up: the lines are those that were read, and each script is found again.
use Rattle.std.proofs.Common.{◌≡◌, ◌∙◌, sym, ap, subst, refl, arith, ℕ, ◌+◌, List, [], length, drop, Ok}
use Rattle.tk_types.specs.declared.script.Body.{Body}
use Rattle.tk_types.specs.declared.script.Label.{Label}
use Rattle.tk_types.specs.declared.script.Stmt.{Stmt}
use Rattle.tk_model.specs.ScriptText.{all_differ, body_lines, stmt_words, FitsStmt, IsBody, IsName, PlacesRise}
use Rattle.tk_raw.specs.RawText.{open_body_lines, raw_body_lines, raw_stmt_words, IsRawBody}
use Rattle.tk_raw.specs.declared.raw.RawBody.{RawBody}
use Rattle.tk_raw.specs.declared.raw.RawStmt.{RawStmt}
use Rattle.tk_script.specs.Resolving.{body_of, labels_of, stmts_from}
use Rattle.tk_script.proofs.NameLaws.{SameBodies}
use Rattle.tk_script.proofs.ArgumentLaws.{bind_ok, Alike}
use Rattle.tk_script.proofs.StatementLaws.{stmt_takes, stmt_again, raw_stmt, AgainStmt}
use Rattle.tk_script.proofs.Weaving.{sure_is, Woven, woven_all, woven_fits, woven_labels, woven_lines, woven_named, woven_names, woven_rise, woven_stmts, Read, items_take, labels_at, Written, weave}

-- ---- one body

-- what a body that is found has of the one that was read
pub record FoundBody (raws : List RawBody) (raw : RawBody) (body : Body) : Type 0 where
  pub name : raw.name ≡ body.name
  pub kind : raw.kind ≡ body.kind
  pub woven : Woven (Read raws body.labels body.kind) 0 raw.items body.labels body.stmts

pub body_found : (raws : List RawBody) (numbers : List ℕ) (raw : RawBody) (body : Body) → IsRawBody raw → body_of raws numbers raw ≡ Ok body → FoundBody raws raw body
unfolding body_of
body_found raws numbers raw body is e =
    let made : List Stmt → Body = λ stmts. record { name = raw.name; kind = raw.kind; labels = labels_of raw.items; stmts = stmts } in
    let b = bind_ok (stmts_from raws (labels_of raw.items) raw.kind (drop 1 numbers) raw.items []) (λ found. Ok (made found)) body e in
    let read = items_take raws (labels_of raw.items) raw.kind 0 (drop 1 numbers) raw.items [] b.0 b.1 is.items in
    let labels : labels_of raw.items ≡ labels_at 0 raw.items = woven_labels (Read raws (labels_of raw.items) raw.kind) 0 raw.items (labels_at 0 raw.items) [] read.stmts read.woven in
    let W : List Label → Type 0 = λ ls. Woven (Read raws (labels_of raw.items) raw.kind) 0 raw.items ls read.stmts in
    let V : List Stmt → Type 0 = λ ts. Woven (Read raws (labels_of raw.items) raw.kind) 0 raw.items (labels_of raw.items) ts in
    subst (FoundBody raws raw) (sure_is (made b.0) body b.2)
    (record { name = refl; kind = refl; woven = subst V (sym read.is) (subst W (sym labels) read.woven) })

-- a body that is found has the lines that were read, and is one
pub record TakenBody (bodies : List Body) (raw : RawBody) (body : Body) : Type 0 where
  pub lines : body_lines bodies body ≡ raw_body_lines raw
  pub is : IsBody bodies body

read_words : (raws : List RawBody) (bodies : List Body) (body : Body) (raw : RawStmt) (stmt : Stmt) → SameBodies raws bodies → Read raws body.labels body.kind raw stmt → raw_stmt_words raw ≡ stmt_words bodies body.labels stmt
unfolding raw_stmt_words
read_words raws bodies body raw stmt same read = sym (stmt_takes raws bodies body raw.head raw.pieces stmt same read.found read.fits).words

-- the lines of a body, by how its statements are written
pub same_lines : (R : RawStmt → Stmt → Type 0) (bodies : List Body) (raw : RawBody) (body : Body) → raw.name ≡ body.name → raw.kind ≡ body.kind → ((line : RawStmt) (stmt : Stmt) → R line stmt → raw_stmt_words line ≡ stmt_words bodies body.labels stmt) → Woven R 0 raw.items body.labels body.stmts → body_lines bodies body ≡ raw_body_lines raw
unfolding body_lines raw_body_lines open_body_lines
same_lines R bodies raw body name kind words woven =
    rw (name, kind, woven_lines R bodies body.labels body.stmts 0 raw.items body.labels body.stmts words refl woven) refl

pub body_takes : (raws : List RawBody) (bodies : List Body) (raw : RawBody) (body : Body) → SameBodies raws bodies → IsRawBody raw → FoundBody raws raw body → TakenBody bodies raw body
body_takes raws bodies raw body same is found =
    let R : RawStmt → Stmt → Type 0 = Read raws body.labels body.kind in
    let P : ℕ → Type 0 = λ n. PlacesRise 0 n body.labels in
    let count : 0 + length body.stmts ≡ length body.stmts = omega arith in
    record {
      lines = same_lines R bodies raw body found.name found.kind (λ line stmt read. read_words raws bodies body line stmt same read) found.woven;
      is = record {
        name = subst (IsName 16) found.name is.name;
        labels = woven_named R 0 raw.items body.labels body.stmts is.items found.woven;
        labels_differ = ap all_differ (sym (woven_names R 0 raw.items body.labels body.stmts found.woven)) ∙ is.labels_differ;
        places = subst P count (woven_rise R 0 0 raw.items body.labels body.stmts (omega arith) found.woven);
        statements = woven_all R (FitsStmt bodies body) 0 raw.items body.labels body.stmts (λ line stmt read. (stmt_takes raws bodies body line.head line.pieces stmt same read.found read.fits).fits) found.woven;
      };
    }

-- how the lines of a body are written
abbrev pub Writes : List Body → Body → RawStmt → Stmt → Type 0
Writes bodies body = Written (raw_stmt bodies body.labels) (FitsStmt bodies body)

-- a body as it is written
pub record WrittenBody (bodies : List Body) (raw : RawBody) (body : Body) : Type 0 where
  pub name : raw.name ≡ body.name
  pub kind : raw.kind ≡ body.kind
  pub woven : Woven (Writes bodies body) 0 raw.items body.labels body.stmts

pub record BodyText (bodies : List Body) (body : Body) : Type 0 where
  pub raw : RawBody
  pub written : WrittenBody bodies raw body

-- each body can be written
pub body_text : (bodies : List Body) (body : Body) → IsBody bodies body → BodyText bodies body
body_text bodies body is =
    let P : ℕ → Type 0 = λ n. PlacesRise 0 n body.labels in
    let count : length body.stmts ≡ 0 + length body.stmts = omega arith in
    let woven = weave (raw_stmt bodies body.labels) (FitsStmt bodies body) body.labels 0 body.stmts (subst P count is.places) is.statements in
    record { raw = record { name = body.name; kind = body.kind; items = woven.lines }; written = record { name = refl; kind = refl; woven = woven.woven } }

again : (raws : List RawBody) (bodies : List Body) (body : Body) (raw : RawStmt) (stmt : Stmt) → Alike raws bodies → IsBody bodies body → Writes bodies body raw stmt → AgainStmt raws bodies body raw stmt
again raws bodies body raw stmt alike is written =
    subst (λ (r : RawStmt). AgainStmt raws bodies body r stmt) (sym written.is)
    (stmt_again raws bodies body stmt alike (record { differ = is.labels_differ; named = is.labels }) written.holds)

-- a body that is written is found again
pub body_again : (raws : List RawBody) (bodies : List Body) (numbers : List ℕ) (raw : RawBody) (body : Body) → Alike raws bodies → IsBody bodies body → WrittenBody bodies raw body → body_of raws numbers raw ≡ Ok body
unfolding body_of
body_again raws bodies numbers raw body alike is written =
    let labels : labels_of raw.items ≡ body.labels = woven_labels (Writes bodies body) 0 raw.items body.labels [] body.stmts written.woven in
    let stmts : stmts_from raws body.labels body.kind (drop 1 numbers) raw.items [] ≡ Ok body.stmts =
    woven_stmts (Writes bodies body) raws body.labels body.kind 0 (drop 1 numbers) raw.items body.labels [] body.stmts (λ line stmt w. (again raws bodies body line stmt alike is w).found) written.woven in
    rw (labels, written.kind, written.name, stmts) refl

-- and it has the lines of the body, and is one before its names are looked up
pub record AgainBody (bodies : List Body) (raw : RawBody) (body : Body) : Type 0 where
  pub lines : body_lines bodies body ≡ raw_body_lines raw
  pub is : IsRawBody raw

pub body_is : (raws : List RawBody) (bodies : List Body) (raw : RawBody) (body : Body) → Alike raws bodies → IsBody bodies body → WrittenBody bodies raw body → AgainBody bodies raw body
body_is raws bodies raw body alike is written = record {
  lines = same_lines (Writes bodies body) bodies raw body written.name written.kind (λ line stmt w. (again raws bodies body line stmt alike is w).words) written.woven;
  is = record {
    name = subst (IsName 16) (sym written.name) is.name;
    labels_differ = ap all_differ (woven_names (Writes bodies body) 0 raw.items body.labels body.stmts written.woven) ∙ is.labels_differ;
    items = woven_fits (Writes bodies body) 0 raw.items body.labels body.stmts (λ line stmt w. (again raws bodies body line stmt alike is w).fits) is.labels written.woven;
  };
}
