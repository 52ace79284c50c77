-- What is defined for a number stands there alone.
use Rattle.std.proofs.Common.{◌≡◌, ℕ, ◌≤◌, Bool, true, false, List, [], ◌∷◌, length, None, refl, ◌∙◌, ap, pos, arith}
use Rattle.std.specs.Prelude.{◌==◌}
use Rattle.tk_types.specs.declared.answer.Who.{Who}
use Rattle.tk_types.specs.declared.error_code.Er.TheVariants as er
use Rattle.tk_types.specs.declared.calls.ContextCall.TheVariants as context
use Rattle.kernel_model.specs.Words.Checks.{Check, ◌otherwise◌, first_error, within}
use Rattle.kernel_model.specs.Tasks.Base.{Base}
use Rattle.context_model.specs.Contexts.Tables.{Contexts, handler_of, has_ssy, service_of, with_handler, with_service}
use Rattle.context_model.specs.Contexts.Calls.{ContextDone, acted, context_call, context_checked, define_handler, define_service, define_service_checks}
use Rattle.context_laws.proofs.Nesting.{same_place, other_place}
use Rattle.context_laws.proofs.Starts.{id_passes}

works : (checks : List Check) (b : Base) (c : Contexts) (effect : ContextDone) → first_error checks ≡ None → context_checked checks b c effect ≡ effect
works checks b c effect none = rw none refl

handler_works : (b : Base) (c : Contexts) (who : Who) (number body : ℕ) → 1 ≤ number → number ≤ 255 → context_call b c who (context.DefInt (pos number) body) ≡ acted b (with_handler c number body)
unfolding context_call define_handler
handler_works b c who number body least most = works ((within 1 255 (pos number) otherwise er.Par) ∷ []) b c (acted b (with_handler c number body)) (rw (id_passes 1 255 number least most) refl)

pub handler_defined : (b : Base) (c : Contexts) (who : Who) (number body : ℕ) → length c.handlers ≡ 256 → 1 ≤ number → number ≤ 255 → handler_of (context_call b c who (context.DefInt (pos number) body)).table number ≡ body
handler_defined b c who number body slots least most =
    ap (λ (result : ContextDone). handler_of result.table number) (handler_works b c who number body least most) ∙ same_place c.handlers number body (omega (arith, slots, most))

pub other_handlers : (b : Base) (c : Contexts) (who : Who) (number other body : ℕ) → 1 ≤ number → number ≤ 255 → (other ≡ number → ⊥) → handler_of (context_call b c who (context.DefInt (pos number) body)).table other ≡ handler_of c other
other_handlers b c who number other body least most apart =
    ap (λ (result : ContextDone). handler_of result.table other) (handler_works b c who number body least most) ∙ other_place c.handlers number other body apart

-- a subsystem is undefined where it was defined, and defined where it wasn't
passes : (c : Contexts) (number body : ℕ) (none has : Bool) → (body == 0) ≡ none → has_ssy c number ≡ has → has ≡ none → 1 ≤ number → number ≤ 255 → first_error (define_service_checks c (pos number) body) ≡ None
passes c number body true true is has same least most = rw (id_passes 1 255 number least most, is, has) refl
passes c number body false false is has same least most = rw (id_passes 1 255 number least most, is, has) refl
passes c number body true false is has same least most = absurd (cc same)
passes c number body false true is has same least most = absurd (cc same)

service_works : (b : Base) (c : Contexts) (who : Who) (number body : ℕ) → has_ssy c number ≡ (body == 0) → 1 ≤ number → number ≤ 255 → context_call b c who (context.DefSsy (pos number) body) ≡ acted b (with_service c number body)
unfolding context_call define_service
service_works b c who number body may least most = works (define_service_checks c (pos number) body) b c (acted b (with_service c number body)) (passes c number body (body == 0) (has_ssy c number) refl refl may least most)

pub service_defined : (b : Base) (c : Contexts) (who : Who) (number body : ℕ) → length c.services ≡ 256 → 1 ≤ number → number ≤ 255 → has_ssy c number ≡ (body == 0) → service_of (context_call b c who (context.DefSsy (pos number) body)).table number ≡ body
service_defined b c who number body slots least most may =
    ap (λ (result : ContextDone). service_of result.table number) (service_works b c who number body may least most) ∙ same_place c.services number body (omega (arith, slots, most))

pub other_services : (b : Base) (c : Contexts) (who : Who) (number other body : ℕ) → 1 ≤ number → number ≤ 255 → has_ssy c number ≡ (body == 0) → (other ≡ number → ⊥) → service_of (context_call b c who (context.DefSsy (pos number) body)).table other ≡ service_of c other
other_services b c who number other body least most may apart =
    ap (λ (result : ContextDone). service_of result.table other) (service_works b c who number body may least most) ∙ other_place c.services number other body apart
