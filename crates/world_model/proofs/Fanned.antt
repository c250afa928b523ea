-- The Enters of a fan's branches, by the branches themselves.
use Rattle.std.proofs.Common.{ℕ, zero, suc, ◌≡◌, refl, ap, ap₂, List, [], ◌∷◌, length}
use Rattle.asl_model.specs.Data.{Text, Json}
use Rattle.asl_model.specs.Names.{Scope, Place, at_hop}
use Rattle.asl_model.specs.Machine.{Used, Block}
use Rattle.asl_model.specs.Stretch.{Fan}
use Rattle.place_name.specs.declared.obj.Obj.TheVariants.{Saved}
use Rattle.world_model.specs.AnyCode.Acts as any_code
use Rattle.world_model.specs.Operations.{Frame, Site, Op, Create, SavedAs}
use Rattle.world_model.specs.Acts.{firsts, at_once, inner, width_of, enter_site, enter_sites, enter_ops, fan_ops, acts_of}

pub sites_length : (around : List Frame) (cs : List (Block × Json)) → length (enter_sites around cs) ≡ length cs
sites_length around [] = refl
sites_length around (c ∷ cs) = ap suc (sites_length around cs)

first_sites : (around : List Frame) (n : ℕ) (cs : List (Block × Json)) → firsts n (enter_sites around cs) ≡ enter_sites around (firsts n cs)
first_sites around zero cs = refl
first_sites around (suc n) [] = refl
first_sites around (suc n) (c ∷ cs) = ap (λ (l : List Site). enter_site around c.0 ∷ l) (first_sites around n cs)

once_sites : (around : List Frame) (w : ℕ) (cs : List (Block × Json)) → at_once w (enter_sites around cs) ≡ enter_sites around (at_once w cs)
once_sites around zero cs = refl
once_sites around (suc w) cs = first_sites around (suc w) cs

-- a fan with branches invokes those that it begins with
pub fan_same : (site : Site) (p : Place) (name : Text) (c : Block × Json) (cs : List (Block × Json)) →
    fan_ops site p name (c ∷ cs) ≡ enter_ops (inner site name) p 0 (suc (length cs)) (at_once (width_of (record { block = site.block; name = name })) (c ∷ cs))
fan_same site p name c cs =
    ap₂ (λ (n : ℕ) (es : List Site). any_code.enter_ops p 0 (suc n) es) (sites_length (inner site name) cs)
    (once_sites (inner site name) (width_of (record { block = site.block; name = name })) (c ∷ cs))

-- and saves how many there are
pub fan_act : (site : Site) (s : Scope) (name : Text) (hop : ℕ) (raw : Json) (used : Used) (cs : List (Block × Json)) →
    ◌≡◌ {A = List Op} (acts_of site s (Fan name hop raw used cs)) (Create (Saved (at_hop s hop)) (SavedAs (length cs) raw used) ∷ fan_ops site (at_hop s hop) name cs)
fan_act site s name hop raw used cs =
    ap (λ (n : ℕ). let op : Op = Create (Saved (at_hop s hop)) (SavedAs n raw used) in op ∷ fan_ops site (at_hop s hop) name cs) (sites_length (inner site name) cs)
