use Rattle.std.proofs.Common.{ℕ, [], Option, ◌≡◌, ◌≤◌, ◌+◌, Some, ap, cond, sym, ◌∙◌, refl, arith, subst, true}
use Rattle.std.specs.Option.{is_some}
use Rattle.device_model.specs.declared.messages.Request.{Request}
use Rattle.device_model.specs.Devices.Tables.{Given, Link}
use Rattle.device_model.specs.Devices.Endings.{served_of}
use Rattle.device_model.specs.Units.Function.{available, begin}
use Rattle.device_model.specs.Units.Stores.{Store}
use Rattle.dev_layer.specs.Links.{HoldsAs, allows_end, count_by_end}
use Rattle.dev_layer.proofs.LinkEnds.{begun_most, ended_link, room_at, served_few, store_left}
use Rattle.dev_layer.proofs.link.Link.finish.Goals as goal

pub write-requires-clause-fits : goal.write-requires-clause-fits
write-requires-clause-fits c =
    let link : Link = record { kind = c.self.inside.kind; store = record { bytes = c.self.inside.bytes.items; begun = c.self.inside.begun }; given = c.self.inside.given; number = c.self.inside.number; out = [] } in
    let there : link.given ≡ Some c.in-Some.given = sym c.replace.ensures.value ∙ c.in-Some.is in
    let may : allows_end link c.args.how ≡ true = ap (λ (l : Link). allows_end l c.args.how) c.self.view_is ∙ c.requires in
    let holds : HoldsAs link.store c.len.result link.store.begun = record { many = omega (arith, c.len.ensures, c.self.inside.bytes.ok.0); done = refl } in
    let counted : c.served-moved.result.count ≡ count_by_end link.kind link.store c.request-request.result.now c.args.how = c.served-moved.ensures.count link.store holds in
    let fits = room_at link c.args.how c.in-Some.given c.served-moved.result.count there may (counted ∙ ap (λ (r : Request). count_by_end link.kind link.store r c.args.how) c.request-request.ensures.request) in
    subst (λ (r : Request). c.served-moved.result.count ≤ available link.kind link.store.bytes r) (sym c.request-request.ensures.request) fits

pub invariant_of-self-2 : goal.invariant_of-self-2
invariant_of-self-2 c =
    let store : Store = record { bytes = c.self.inside.bytes.items; begun = c.self.inside.begun } in
    let there : c.self.inside.given ≡ Some c.in-Some.given = sym c.replace.ensures.value ∙ c.in-Some.is in
    let had : c.self.inside.begun + 1 ≤ c.self.inside.number = subst (λ (o : Option Given). c.self.inside.begun + cond (is_some o) 1 0 ≤ c.self.inside.number) there c.self.invariant.counted in
    let begun : c.begun_with-self-inside.result ≡ (begin store c.request-request.result.now).begun = c.begun_with-self-inside.ensures store refl in
    let most : (begin store c.request-request.result.now).begun ≤ c.self.inside.begun + 1 = begun_most store c.request-request.result.now in
    let left : c.begun_with-self-inside.result + 0 ≤ c.self.inside.number = omega (arith, had, begun, most) in
    record {
      fits = c.self.invariant.fits;
      short = c.write.ensures.short;
      room = λ log. let before = c.self.invariant.room log in let more = c.write.ensures.capacity in omega (arith, before, more);
      counted = subst (λ (o : Option Given). c.begun_with-self-inside.result + cond (is_some o) 1 0 ≤ c.self.inside.number) (sym c.replace.ensures.after) left;
      few = c.self.invariant.few;
    }

pub returns-clause-left : goal.returns-clause-left
returns-clause-left c =
    let link : Link = record { kind = c.self.inside.kind; store = record { bytes = c.self.inside.bytes.items; begun = c.self.inside.begun }; given = c.self.inside.given; number = c.self.inside.number; out = [] } in
    let there : link.given ≡ Some c.in-Some.given = sym c.replace.ensures.value ∙ c.in-Some.is in
    let holds : HoldsAs link.store c.len.result link.store.begun = record { many = omega (arith, c.len.ensures, c.self.inside.bytes.ok.0); done = refl } in
    let counted : c.served-moved.result.count ≡ count_by_end link.kind link.store c.request-request.result.now c.args.how = c.served-moved.ensures.count link.store holds in
    let begun : c.begun_with-self-inside.result ≡ (begin link.store c.request-request.result.now).begun = c.begun_with-self-inside.ensures link.store refl in
    let store : Store = record { bytes = c.write.new.bytes.items; begun = c.begun_with-self-inside.result } in
    let stores : store ≡ (served_of link.kind link.store c.request-request.result.now c.args.how).store = store_left link.kind link.store c.request-request.result.now c.args.how c.write.new.bytes.items c.begun_with-self-inside.result c.served-moved.result.count counted c.write.ensures.written begun in
    ap (λ (o : Option Given). record link { store = store; given = o }) c.replace.ensures.after
    ∙ ended_link link c.args.self.now c.args.how c.in-Some.given store c.self.view_is there (stores ∙ ap (λ (r : Request). (served_of link.kind link.store r c.args.how).store) c.request-request.ensures.request)

pub returns-clause-few : goal.returns-clause-few
returns-clause-few c =
    let link : Link = record { kind = c.self.inside.kind; store = record { bytes = c.self.inside.bytes.items; begun = c.self.inside.begun }; given = c.self.inside.given; number = c.self.inside.number; out = [] } in
    let there : link.given ≡ Some c.in-Some.given = sym c.replace.ensures.value ∙ c.in-Some.is in
    let may : allows_end link c.args.how ≡ true = ap (λ (l : Link). allows_end l c.args.how) c.self.view_is ∙ c.requires in
    let holds : HoldsAs link.store c.len.result link.store.begun = record { many = omega (arith, c.len.ensures, c.self.inside.bytes.ok.0); done = refl } in
    let is = c.served-moved.ensures.served link.store holds in
    let few = served_few link c.args.how c.in-Some.given there may c.self.invariant.short in
    subst (λ (n : ℕ). n ≤ 65536) (sym (is.size_is ∙ ap (λ (r : Request). (served_of link.kind link.store r c.args.how).size) c.request-request.ensures.request)) few
