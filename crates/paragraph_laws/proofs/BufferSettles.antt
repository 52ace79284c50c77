-- What settling comes to once the caller of a buffer has joined and was served: the same as where it had gone on at once.
use Rattle.std.proofs.Common.{◌≡◌, ℕ, zero, suc, ◌≤◌, length, Option, Some, None, refl, ◌∙◌, ap, sym, arith}
use Rattle.std.specs.Option.{option_map}
use Rattle.tk_types.specs.declared.answer.Answer.{Answer}
use Rattle.tk_types.specs.declared.run.Mode.{Mode}
use Rattle.kernel_model.specs.SemFlags.Trial.{MayWait}
use Rattle.kernel_model.specs.Tasks.Base.{task_at}
use Rattle.object_model.specs.Mails.Buffers.{serve_buffer}
use Rattle.object_model.specs.Mails.Tables.{MailParts}
use Rattle.machine_model.specs.Events.Settle.{handed, refreshed, served_within, settle}
use Rattle.machine_model.specs.States.Objects.{Parts, serve_object, with_mails}
use Rattle.machine_lemmas.proofs.HandingServes.{unmapped}
use Rattle.machine_lemmas.proofs.Settling.{enough_servings, next_served, settled_none}
use Rattle.paragraph_laws.specs.Paragraph.{IsSettled}
use Rattle.paragraph_laws.proofs.BufferLoop.{IsServed, near_on, on, on_served, served_stays}
use Rattle.paragraph_laws.proofs.Joined.{kept_up_to_date}
use Rattle.paragraph_laws.proofs.NearBuffer.{IsNear, buffer_first, near_served}
use Rattle.paragraph_laws.proofs.OneKind.{none_of}
use Rattle.paragraph_laws.proofs.Settled.{given_still, refreshed_none}

-- ---- within a bound

-- parts that had settled, and a task that may wait for a buffer
pub record IsBegun (mode : Mode) (p : Parts) (t id : ℕ) : Type 0 where
  pub settled : IsSettled mode p
  pub may : MayWait p.base t
  pub none : task_at p.base 0 ≡ None
  pub least : 1 ≤ id
  pub most : id ≤ 64

-- what servings come to, before the caller goes on and after it
record IsLast (p : Parts) (t id : ℕ) (answer : Answer) (left : ℕ) (q : MailParts) : Type 0 where
  last : MailParts
  near : IsNear p t id last
  served : IsServed t answer last
  is : served_within left (with_mails p q) ≡ with_mails p last
  gone : served_within left (with_mails p (on p t q)) ≡ with_mails p (on p t last)

-- each priority is that of its definition still
near_fresh : (mode : Mode) (p : Parts) (t id : ℕ) (q : MailParts) → IsBegun mode p t id → IsNear p t id q → refreshed (with_mails p q) ≡ with_mails p q
near_fresh mode p t id q begun near = refreshed_none (with_mails p q) (kept_up_to_date p.base q.base p.objects.mutexes near.keeps begun.settled.up_to_date)

-- requests have gone to their drivers still
near_given : (mode : Mode) (p : Parts) (t id : ℕ) (q : MailParts) → IsBegun mode p t id → IsNear p t id q → handed mode (with_mails p q) ≡ with_mails p q
near_given mode p t id q begun near =
    let most = begun.most in
    given_still mode p (with_mails p q) refl (near.away 648 (λ e. omega (arith, e, most)) (λ e. omega (arith, e, most))) begun.settled.given

near_first : (mode : Mode) (p : Parts) (t id : ℕ) (q : MailParts) → IsBegun mode p t id → IsNear p t id q → serve_object (with_mails p q) ≡ option_map (with_mails p) (serve_buffer q id)
near_first mode p t id q begun near = buffer_first p t id q begun.settled.short begun.may begun.least begun.most (none_of p begun.settled.unserved) near

near_gone : (mode : Mode) (p : Parts) (t id : ℕ) (answer : Answer) (q : MailParts) → IsBegun mode p t id → IsNear p t id q → IsServed t answer q → IsNear p t id (on p t q)
near_gone mode p t id answer q begun near served = near_on p t id answer q begun.may near served begun.none

gone_first : (mode : Mode) (p : Parts) (t id : ℕ) (answer : Answer) (q : MailParts) → IsBegun mode p t id → IsNear p t id q → IsServed t answer q →
    serve_object (with_mails p (on p t q)) ≡ option_map (with_mails p) (option_map (on p t) (serve_buffer q id))
gone_first mode p t id answer q begun near served =
    near_first mode p t id (on p t q) begun (near_gone mode p t id answer q begun near served)
    ∙ ap (option_map (with_mails p)) (on_served p t id answer q begun.may begun.least near served)

last_by : (mode : Mode) (p : Parts) (t id : ℕ) (answer : Answer) (left : ℕ) (q : MailParts) (next : Option MailParts) → serve_buffer q id ≡ next → IsBegun mode p t id → IsNear p t id q →
    IsServed t answer q → ((s : MailParts) → IsNear p t id s → IsServed t answer s → IsLast p t id answer left s) → IsLast p t id answer (suc left) q
unfolding served_within
last_by mode p t id answer left q None is begun near served later = record {
  last = q;
  near = near;
  served = served;
  is = ap (next_served left (with_mails p q)) (near_first mode p t id q begun near ∙ ap (option_map (with_mails p)) is);
  gone = ap (next_served left (with_mails p (on p t q))) (gone_first mode p t id answer q begun near served ∙ ap (λ found. option_map (with_mails p) (option_map (on p t) found)) is);
}
last_by mode p t id answer left q (Some next) is begun near served later =
    let nearer = near_served p t id q next begun.least near is in
    let stays = served_stays p t id answer q next near is served in
    let rest = later next nearer stays in
    record {
      last = rest.last;
      near = rest.near;
      served = rest.served;
      is = ap (next_served left (with_mails p q)) (near_first mode p t id q begun near ∙ ap (option_map (with_mails p)) is)
          ∙ ap (served_within left) (near_fresh mode p t id next begun nearer)
          ∙ rest.is;
      gone = ap (next_served left (with_mails p (on p t q))) (gone_first mode p t id answer q begun near served ∙ ap (λ found. option_map (with_mails p) (option_map (on p t) found)) is)
          ∙ ap (served_within left) (near_fresh mode p t id (on p t next) begun (near_gone mode p t id answer next begun nearer stays))
          ∙ rest.gone;
    }

lasts : (mode : Mode) (p : Parts) (t id : ℕ) (answer : Answer) (left : ℕ) (q : MailParts) → IsBegun mode p t id → IsNear p t id q → IsServed t answer q → IsLast p t id answer left q
unfolding served_within
lasts mode p t id answer zero q begun near served = record { last = q; near = near; served = served; is = refl; gone = refl }
lasts mode p t id answer (suc left) q begun near served =
    last_by mode p t id answer left q (serve_buffer q id) refl begun near served (λ s nearer stays. lasts mode p t id answer left s begun nearer stays)

-- ---- one more

more_by : (left : ℕ) (p : Parts) (next : Option Parts) → serve_object p ≡ next → serve_object (served_within (suc left) p) ≡ None →
    ((q : Parts) → serve_object (served_within left q) ≡ None → served_within (suc left) q ≡ served_within left q) → served_within (suc (suc left)) p ≡ served_within (suc left) p
unfolding served_within
more_by left p None is none later = ap (next_served (suc left) p) is ∙ sym (ap (next_served left p) is)
more_by left p (Some q) is none later =
    let here : served_within (suc left) p ≡ served_within left (refreshed q) = ap (next_served left p) is in
    ap (next_served (suc left) p) is ∙ later (refreshed q) (ap serve_object (sym here) ∙ none) ∙ sym here

-- where nobody is left to serve, one serving more is none
one_more : (left : ℕ) (p : Parts) → serve_object (served_within left p) ≡ None → served_within (suc left) p ≡ served_within left p
unfolding served_within
one_more zero p none = ap (next_served zero p) none
one_more (suc left) p none = more_by left p (serve_object p) refl none (one_more left)

-- ---- all settles

-- what settling comes to once the caller was served, and where it has gone on
pub record IsSame (mode : Mode) (p : Parts) (t id : ℕ) (answer : Answer) (joined q : MailParts) : Type 0 where
  pub last : MailParts
  pub near : IsNear p t id last
  pub served : IsServed t answer last
  pub kept : settle mode (with_mails p joined) ≡ with_mails p last
  pub gone : settle mode (with_mails p (on p t q)) ≡ with_mails p (on p t last)

-- at most eight devices, and 256 slots, once the caller has joined
pub record HasRoom (p : Parts) (q : MailParts) : Type 0 where
  pub links : length p.objects.devices.links ≤ 9
  pub slots : length q.base.tasks ≤ 256

pub settles_same : (mode : Mode) (p : Parts) (t id : ℕ) (answer : Answer) (joined q : MailParts) → IsBegun mode p t id → HasRoom p joined → IsNear p t id joined →
    serve_buffer joined id ≡ Some q → IsServed t answer q → IsSame mode p t id answer joined q
unfolding settle served_within
settles_same mode p t id answer joined q begun room near is served =
    let nearer = near_served p t id joined q begun.least near is in
    let rest = lasts mode p t id answer 511 q begun nearer served in
    let whole : served_within 512 (refreshed (with_mails p joined)) ≡ with_mails p rest.last =
    ap (served_within 512) (near_fresh mode p t id joined begun near)
    ∙ ap (next_served 511 (with_mails p joined)) (near_first mode p t id joined begun near ∙ ap (option_map (with_mails p)) is)
    ∙ ap (served_within 511) (near_fresh mode p t id q begun nearer)
    ∙ rest.is in
    let none : serve_object (with_mails p rest.last) ≡ None = ap serve_object (sym whole) ∙ enough_servings (with_mails p joined) room.links room.slots in
    let nobody : serve_buffer rest.last id ≡ None = unmapped (with_mails p) (serve_buffer rest.last id) (sym (near_first mode p t id rest.last begun rest.near) ∙ none) in
    let gone_none : serve_object (with_mails p (on p t rest.last)) ≡ None =
    gone_first mode p t id answer rest.last begun rest.near rest.served ∙ ap (λ found. option_map (with_mails p) (option_map (on p t) found)) nobody in
    let from : Parts = with_mails p (on p t q) in
    record {
      last = rest.last;
      near = rest.near;
      served = rest.served;
      kept = ap (handed mode) whole ∙ near_given mode p t id rest.last begun rest.near;
      gone = ap (λ parts. handed mode (served_within 512 parts)) (near_fresh mode p t id (on p t q) begun (near_gone mode p t id answer q begun nearer served))
          ∙ ap (handed mode) (one_more 511 from (ap serve_object rest.gone ∙ gone_none) ∙ rest.gone)
          ∙ near_given mode p t id (on p t rest.last) begun (near_gone mode p t id answer rest.last begun rest.near rest.served);
    }

-- where the buffer serves nobody nothing changes
pub settles_none : (mode : Mode) (p : Parts) (t id : ℕ) (joined : MailParts) → IsBegun mode p t id → IsNear p t id joined → serve_buffer joined id ≡ None →
    settle mode (with_mails p joined) ≡ with_mails p joined
settles_none mode p t id joined begun near is =
    settled_none mode (with_mails p joined) (kept_up_to_date p.base joined.base p.objects.mutexes near.keeps begun.settled.up_to_date)
    (near_first mode p t id joined begun near ∙ ap (option_map (with_mails p)) is) (near_given mode p t id joined begun near)
