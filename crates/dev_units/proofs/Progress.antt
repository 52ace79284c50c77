-- What a request has come to after its beginning, and after each of its blocks.
use Rattle.std.proofs.Common.{◌≡◌, ℕ, suc, ◌≤◌, ◌+◌, ◌*◌, Bool, true, false, List, [], refl, ap, sym, subst, ◌∙◌, arith}
use Rattle.std.specs.Prelude.{if◌then◌else◌, ◌==◌, ◌||◌, ◌&&◌, ◌%◌, nat_le, nat_lt}
use Rattle.std.proofs.lemmas.Bool.Decides.{nat_tests}
use Rattle.tk_types.specs.declared.error_code.Er.{Er}
use Rattle.tk_types.specs.declared.error_code.Er.TheVariants as er
use Rattle.tk_types.specs.declared.script.Kind.{Kind}
use Rattle.device_model.specs.declared.messages.Request.{Request}
use Rattle.device_model.specs.RoomyBytes.{RoomyBytes}
use Rattle.device_model.specs.Units.Stores.{Store, is_log}
use Rattle.device_model.specs.Units.Function.{IsWhole, Served, begin, block_size, count_of, cut, cut_begun, error_of, may_cut, size_of, unit}
use Rattle.device_model.specs.Units.Blocks.{Partial, block, blocks, is_last}
use Rattle.unit_laws.proofs.Blocks.{blocks_cut, blocks_whole, last_known, nothing_written, whole_of}
use Rattle.driver_laws.proofs.Lasts as lasts
use Rattle.dev_units.specs.declared.block_end.BlockEnd.{BlockEnd}
use Rattle.dev_units.specs.declared.block_end.BlockEnd.TheVariants.{Ended, More}
use Rattle.driver_model.specs.Ends.{error_at, size_at}
use Rattle.dev_units.specs.Ends.{block_end}
use Rattle.dev_units.specs.Progress.{CameTo, IsUnderWay, brought, ended_with, partial}

-- ---- the beginning

cut_at_start : (kind : Kind) (begun : Store) (id number : ℕ) (write : Bool) (start size : ℕ) (bytes : RoomyBytes) →
    let request : Request = record { id = id; number = number; write = write; start = start; size = size; bytes = bytes } in
    ended_with begun 0 er.Abort [] ≡ cut_begun kind begun request 0
cut_at_start kind begun id number true start size bytes = ap (λ (b : List ℕ). ended_with (record begun { bytes = b }) 0 er.Abort []) (sym (nothing_written (is_log kind) begun.bytes start))
cut_at_start kind begun id number false start size bytes = refl

-- a request that was begun is under way
pub under_way_at_start : (kind : Kind) (found : Store) (request : Request) → IsUnderWay kind found request 0 (begin found request) []
unfolding blocks cut may_cut
under_way_at_start kind found request = record {
  served = refl;
  cut = cut_at_start kind (begin found request) request.id request.number request.write request.start request.size request.bytes;
  may_cut = refl;
}

-- ---- what is under way, and what it answers

may_reach : (count all : ℕ) → (count == 0 || (count % 64 == 0 && nat_lt count all)) ≡ true → count ≤ all
may_reach count all may = grind (arith, nat_tests, may)

-- what was done is no more than there is to do
pub reached : (kind : Kind) (found store : Store) (request : Request) (k : ℕ) (content : List ℕ) → IsUnderWay kind found request k store content →
    block_size * k ≤ count_of kind (begin found request) request
unfolding may_cut
reached kind found store request k content way = may_reach (block_size * k) (count_of kind (begin found request) request) way.may_cut

-- the store is that of the blocks that were done
store_is : (kind : Kind) (found store : Store) (request : Request) (k : ℕ) (content : List ℕ) → IsUnderWay kind found request k store content → store ≡ (blocks kind found request k).store
store_is kind found store request k content way = ap (λ (p : Partial). p.store) way.served

-- the size that a block answers is that of the request
size_is : (kind : Kind) (found store : Store) (request : Request) (k : ℕ) (content : List ℕ) → IsWhole request → IsUnderWay kind found request k store content →
    size_at kind store request (block_size * k) ≡ size_of kind (begin found request) request
size_is kind found store request k content whole way =
    ap (λ (s : Store). size_at kind s request (block_size * k)) (store_is kind found store request k content way)
    ∙ lasts.size_is kind found request k whole (reached kind found store request k content way)

-- and so is the error
error_is : (kind : Kind) (found store : Store) (request : Request) (k : ℕ) (content : List ℕ) → IsWhole request → IsUnderWay kind found request k store content →
    error_at kind store request (block_size * k) ≡ error_of kind (begin found request) request
error_is kind found store request k content whole way =
    ap (λ (s : Store). error_at kind s request (block_size * k)) (store_is kind found store request k content way)
    ∙ lasts.error_is kind found request k whole (reached kind found store request k content way)

-- ---- one block more

one_more : (kind : Kind) (found store : Store) (request : Request) (k : ℕ) (content : List ℕ) → IsUnderWay kind found request k store content →
    block kind (partial store content) request k ≡ blocks kind found request (suc k)
unfolding blocks
one_more kind found store request k content way = ap (λ (p : Partial). block kind p request k) way.served

last_is : (kind : Kind) (found store : Store) (request : Request) (k : ℕ) (content : List ℕ) → IsWhole request → IsUnderWay kind found request k store content →
    is_last kind store request k ≡ nat_le (count_of kind (begin found request) request) (block_size * k + block_size)
last_is kind found store request k content whole way =
    ap (λ (p : Partial). is_last kind p.store request k) way.served ∙ last_known kind found request k whole (reached kind found store request k content way)

served_of : (p : Partial) (size : ℕ) (error : Er) (served : Served) → p ≡ whole_of served → size ≡ served.size → error ≡ served.error → ended_with p.store size error p.content ≡ served
served_of p size error served is size_same error_same =
    ap (λ (q : Partial). ended_with q.store size error q.content) is
    ∙ (ap (λ (n : ℕ). ended_with served.store n error served.content) size_same
    ∙ ap (λ (e : Er). ended_with served.store served.size e served.content) error_same)

may_go_on : (k all : ℕ) → nat_le all (64 * k + 64) ≡ false → ((64 * (k + 1)) == 0 || ((64 * (k + 1)) % 64 == 0 && nat_lt (64 * (k + 1)) all)) ≡ true
may_go_on k all more = grind (arith, nat_tests, more)

came_by : (last : Bool) (kind : Kind) (found store : Store) (request : Request) (k : ℕ) (content : List ℕ) → IsWhole request → IsUnderWay kind found request k store content →
    is_last kind store request k ≡ last →
    CameTo kind found request (k + 1) (if last then Ended (size_at kind store request (block_size * k)) (error_at kind store request (block_size * k)) else More)
    (block kind (partial store content) request k).store (block kind (partial store content) request k).content
unfolding unit cut may_cut
came_by true kind found store request k content whole way last =
    let all : count_of kind (begin found request) request ≤ 64 * k + 64 = grind (arith, nat_tests, last, last_is kind found store request k content whole way) in
    served_of (block kind (partial store content) request k) (size_at kind store request (block_size * k)) (error_at kind store request (block_size * k)) (unit kind found request)
    (one_more kind found store request k content way ∙ blocks_whole kind found request k whole (reached kind found store request k content way) all)
    (size_is kind found store request k content whole way)
    (error_is kind found store request k content whole way)
came_by false kind found store request k content whole way last =
    let more : nat_le (count_of kind (begin found request) request) (64 * k + 64) ≡ false = sym (last_is kind found store request k content whole way) ∙ last in
    let within : 64 * (k + 1) ≤ count_of kind (begin found request) request = grind (arith, nat_tests, more) in
    let now : block kind (partial store content) request k ≡ blocks kind found request (k + 1) = one_more kind found store request k content way ∙ ap (λ (n : ℕ). blocks kind found request n) (omega arith) in
    record {
      served = now;
      cut = ap (λ (p : Partial). ended_with p.store (block_size * (k + 1)) er.Abort p.content) (now ∙ blocks_cut kind found request (k + 1) whole within);
      may_cut = may_go_on k (count_of kind (begin found request) request) more;
    }

-- after a block the request is under way, or it is done whole
pub came : (kind : Kind) (found store : Store) (request : Request) (k : ℕ) (content : List ℕ) → IsWhole request → IsUnderWay kind found request k store content →
    CameTo kind found request (k + 1) (block_end kind store request k) (block kind (partial store content) request k).store (block kind (partial store content) request k).content
came kind found store request k content whole way = came_by (is_last kind store request k) kind found store request k content whole way refl

-- ---- with the bytes that lie there

brought_by : (kind : Kind) (store : Store) (items : List ℕ) (k : ℕ) (id number : ℕ) (write : Bool) (start size : ℕ) (bytes : RoomyBytes) →
    let request : Request = record { id = id; number = number; write = write; start = start; size = size; bytes = bytes } in
    block kind (partial store (brought request items)) request k
    ≡ partial (block kind (partial store items) request k).store (brought request (block kind (partial store items) request k).content)
unfolding block
brought_by kind store items k id number true start size bytes = refl
brought_by kind store items k id number false start size bytes = refl

-- what a block came to, by what it left
pub came_to : (kind : Kind) (found store next : Store) (request : Request) (k : ℕ) (items left : List ℕ) (end : BlockEnd) → IsWhole request →
    partial next left ≡ block kind (partial store items) request k → end ≡ block_end kind store request k →
    IsUnderWay kind found request k store (brought request items) → CameTo kind found request (k + 1) end next (brought request left)
came_to kind found store next request k items left end whole is ends way =
    subst (λ (e : BlockEnd). CameTo kind found request (k + 1) e next (brought request left)) (sym ends)
    (subst (λ (p : Partial). CameTo kind found request (k + 1) (block_end kind store request k) p.store p.content)
    (brought_by kind store items k request.id request.number request.write request.start request.size request.bytes
    ∙ ap (λ (p : Partial). partial p.store (brought request p.content)) (sym is))
    (came kind found store request k (brought request items) whole way))

-- a request for no bytes, and one for some, once begun
pub under_way_of_none : (kind : Kind) (found : Store) (request : Request) → (request.size == 0) ≡ true → IsUnderWay kind found request 0 found []
under_way_of_none kind found request none =
    subst (λ (begun : Store). IsUnderWay kind found request 0 begun []) (ap (λ (b : Bool). if b then found else record found { begun = found.begun + 1 }) none) (under_way_at_start kind found request)

pub under_way_of_some : (kind : Kind) (found : Store) (request : Request) → (request.size == 0) ≡ false → IsUnderWay kind found request 0 (record found { begun = found.begun + 1 }) []
under_way_of_some kind found request some =
    subst (λ (begun : Store). IsUnderWay kind found request 0 begun []) (ap (λ (b : Bool). if b then found else record found { begun = found.begun + 1 }) some) (under_way_at_start kind found request)
