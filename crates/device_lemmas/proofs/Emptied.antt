-- Messages to drivers that are taken leave all else of the devices: the links are the same, each with what its driver has.
use Rattle.std.proofs.Common.{◌≡◌, ℕ, zero, suc, ◌+◌, ◌||◌, length, List, [], ◌∷◌, ◌++◌, Option, Some, None, refl, ◌∙◌, ap, sym}
use Rattle.std.specs.Prelude.{drop, map}
use Rattle.std.specs.List.{list_any}
use Rattle.std.specs.Option.{is_some}
use Rattle.kernel_model.specs.Words.Orders.{entry, taken_from}
use Rattle.device_model.specs.Devices.Tables.{Devices, Link, at_driver, device_ids, given_in, link_at, request_in}
use Rattle.device_model.specs.Devices.Handing.{any_given, emptied, has_given, link_emptied, messages, out_of}

links_many : (links : List (Option Link)) → length (map link_emptied links) ≡ length links
links_many [] = refl
links_many (link ∷ links) = ap (λ n. suc n) (links_many links)

-- there are as many devices
pub emptied_many : (dv : Devices) → length (emptied dv).links ≡ length dv.links
unfolding emptied
emptied_many dv = links_many dv.links

links_at : (links : List (Option Link)) (d : ℕ) → entry (map link_emptied links) d ≡ link_emptied (entry links d)
links_at [] d = refl
links_at (None ∷ links) zero = refl
links_at (Some link ∷ links) zero = refl
links_at (link ∷ links) (suc d) = links_at links d

-- each link is as before, without its messages
pub emptied_at : (dv : Devices) (d : ℕ) → link_at (emptied dv) d ≡ link_emptied (link_at dv d)
unfolding emptied
emptied_at dv d = links_at dv.links d

taken_same : (from : ℕ) (links : List (Option Link)) → taken_from from (map link_emptied links) ≡ taken_from from links
taken_same from [] = refl
taken_same from (None ∷ links) = taken_same (from + 1) links
taken_same from (Some link ∷ links) = ap (λ (ids : List ℕ). from ∷ ids) (taken_same (from + 1) links)

links_ids : (links : List (Option Link)) → taken_from 1 (drop 1 (map link_emptied links)) ≡ taken_from 1 (drop 1 links)
links_ids [] = refl
links_ids (link ∷ links) = taken_same 1 links

-- the devices are the same
pub emptied_ids : (dv : Devices) → device_ids (emptied dv) ≡ device_ids dv
unfolding emptied
emptied_ids dv = links_ids dv.links

link_given : (link : Option Link) → given_in (link_emptied link) ≡ given_in link
link_given None = refl
link_given (Some link) = refl

-- a driver has what it had
pub emptied_given : (dv : Devices) (d : ℕ) → given_in (link_at (emptied dv) d) ≡ given_in (link_at dv d)
emptied_given dv d = ap given_in (emptied_at dv d) ∙ link_given (link_at dv d)

pub emptied_driver : (dv : Devices) (d : ℕ) → at_driver (emptied dv) d ≡ at_driver dv d
unfolding at_driver
emptied_driver dv d = ap request_in (emptied_given dv d)

links_any : (links : List (Option Link)) → list_any has_given (map link_emptied links) ≡ list_any has_given links
links_any [] = refl
links_any (link ∷ links) =
    ap (λ given. is_some given || list_any has_given (map link_emptied links)) (link_given link) ∙ ap (λ later. has_given link || later) (links_any links)

-- so any driver has a request where one had
pub emptied_any : (dv : Devices) → any_given (emptied dv) ≡ any_given dv
unfolding emptied
emptied_any dv = links_any dv.links

link_there : (link : Option Link) → is_some (link_emptied link) ≡ is_some link
link_there None = refl
link_there (Some link) = refl

-- and each device is there that was
pub emptied_there : (dv : Devices) (d : ℕ) → is_some (link_at (emptied dv) d) ≡ is_some (link_at dv d)
emptied_there dv d = ap is_some (emptied_at dv d) ∙ link_there (link_at dv d)

-- ---- what waits to be taken

links_out : (links : List (Option Link)) → out_of (map link_emptied links) ≡ []
links_out [] = refl
links_out (None ∷ links) = links_out links
links_out (Some link ∷ links) = links_out links

-- no message is left
pub emptied_out : (dv : Devices) → messages (emptied dv) ≡ []
unfolding emptied messages
emptied_out dv = links_out dv.links

none_of_two : {A : Type 0} → (xs ys : List A) → xs ++ ys ≡ [] → (xs ≡ []) × (ys ≡ [])
none_of_two [] ys is = (refl, is)
none_of_two (x ∷ xs) ys is = absurd (cc is)

links_same : (links : List (Option Link)) → out_of links ≡ [] → map link_emptied links ≡ links
links_same [] is = refl
links_same (None ∷ links) is = ap (λ (later : List (Option Link)). None ∷ later) (links_same links is)
links_same (Some link ∷ links) is =
    let none = none_of_two link.out (out_of links) is in
    ap (λ out. Some (record link { out = out }) ∷ map link_emptied links) (sym none.0) ∙ ap (λ (later : List (Option Link)). Some link ∷ later) (links_same links none.1)

-- where none waits nothing changes
pub emptied_none : (dv : Devices) → messages dv ≡ [] → emptied dv ≡ dv
unfolding emptied messages
emptied_none dv none = ap (λ (links : List (Option Link)). record dv { links = links }) (links_same dv.links none)

-- so it is where they were taken just before
pub emptied_twice : (dv : Devices) → emptied (emptied dv) ≡ emptied dv
emptied_twice dv = emptied_none (emptied dv) (emptied_out dv)
