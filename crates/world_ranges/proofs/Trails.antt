-- Trails one segment longer and shorter.
use Rattle.std.proofs.Common.{◌≡◌, ℕ, suc, ◌<◌, ◌≤◌, List, [], ◌∷◌, ◌++◌, length, Some, subst, arith}
use Rattle.std.proofs.lemmas.List.{length_push}
use Rattle.std.specs.List.{AllByRecursion}
use Rattle.place_name.specs.declared.limits.TheConstants.{HOPS, MOST_BRANCHES, MOST_SEGS}
use Rattle.place_name.specs.Names.{Seg, Scope, Place, Parent, scope_of, IsSeg, IsScope, IsPlace, IsParent}
use Rattle.world_model.specs.AnyCode.Names.{child, at_hop, parent_of}
use Rattle.world_model.proofs.Keeps.{parent_child}

-- the segment of a branch
abbrev pub seg_at : Place → (index count : ℕ) → Seg
seg_at p index count = record { hop = p.hop; index = index; count = count }

pub trail_longer : (p : Place) (index count : ℕ) → length (child p index count).trail ≡ suc (length p.trail)
trail_longer p index count = let k = length_push p.trail (seg_at p index count) in omega (arith, k)

segs_more : (t : List Seg) (g : Seg) → AllByRecursion IsSeg t → IsSeg g → AllByRecursion IsSeg (t ++ g ∷ [])
segs_more [] g h k = (k, tt)
segs_more (x ∷ t) g h k = (h.0, segs_more t g h.1 k)

segs_less : (t : List Seg) (g : Seg) → AllByRecursion IsSeg (t ++ g ∷ []) → AllByRecursion IsSeg t × IsSeg g
segs_less [] g h = (tt, h.0)
segs_less (x ∷ t) g h = let k = segs_less t g h.1 in ((h.0, k.0), k.1)

-- a branch of a place that has room for it is a scope in range
pub child_in : (p : Place) (index count : ℕ) → IsPlace p → length p.trail < MOST_SEGS → index < count → count ≤ MOST_BRANCHES → IsScope (child p index count)
child_in p index count h room below within =
    let n = trail_longer p index count in
    record {
      below_sessions = h.below_sessions;
      is_trail = record {
        within = omega (arith, n, room);
        segs = segs_more p.trail (seg_at p index count) h.is_trail.segs (record { below_hops = h.below_hops; below_count = below; within = within });
      };
    }

-- and back
child_out : (p : Place) (index count : ℕ) → IsScope (child p index count) → IsParent (record { place = p; index = index; count = count })
child_out p index count h =
    let n = trail_longer p index count in
    let m : length (child p index count).trail ≤ MOST_SEGS = h.is_trail.within in
    let k = segs_less p.trail (seg_at p index count) h.is_trail.segs in
    record {
      is_place = record { below_sessions = h.below_sessions; is_trail = record { within = omega (arith, n, m); segs = k.0 }; below_hops = k.1.below_hops };
      below_count = k.1.below_count;
      within = k.1.within;
    }

pub parent_in : (s : Scope) (q : Parent) → parent_of s ≡ Some q → IsScope s → IsParent q
parent_in s q e h = child_out q.place q.index q.count (subst IsScope (parent_child s q e) h)

pub place_in : (s : Scope) (hop : ℕ) → IsScope s → hop < HOPS → IsPlace (at_hop s hop)
place_in s hop h l = record { below_sessions = h.below_sessions; is_trail = h.is_trail; below_hops = l }

pub scope_in : (p : Place) → IsPlace p → IsScope (scope_of p)
scope_in p h = record { below_sessions = h.below_sessions; is_trail = h.is_trail }
