-- Typed tilts that are apart by tilt make seeds that are apart, whatever their camera is: what merging keeps of them is near none that comes later. Assumes nothing.
use Rattle.std.specs.Prelude.{◌≡◌, refl, true, false, List, [], ◌∷◌, ◌++◌, map, drop, length}
use Rattle.std.proofs.Common.{sym, subst}
use Rattle.std.proofs.Math.Seq.{drop-append_seam}
use mathlib.Core.List.{append_assoc, append-nil}
use Rattle.common.specs.Tests.{case, both_false}
use Rattle.camera.specs.declared.intrinsics.FxFyCxCy.{FxFyCxCy}
use Rattle.camera.specs.declared.sensor.ScheimpflugParams.{ScheimpflugParams}
use Rattle.seeds.specs.declared.CandidateSeed.{CandidateSeed}
use Rattle.seeds.specs.Merge.{has_near, push, merged_into}
use Rattle.seeds.specs.Rules.{near, tilt_near, seed_with}

module _ (k : FxFyCxCy) (t : ScheimpflugParams) (ks : List CandidateSeed) where
  abbrev s : CandidateSeed
  s = seed_with k t

  typed_seed_not_near_snoc : (ys : List CandidateSeed) (u : ScheimpflugParams) → has_near near ys s ≡ false → tilt_near u t ≡ false → has_near near (ys ++ seed_with k u ∷ []) s ≡ false
  unfolding has_near near
  typed_seed_not_near_snoc [] u h e = rw e
  typed_seed_not_near_snoc (y ∷ ys) u h e = let p = both_false (near y s) (has_near near ys s) h in rw p.0 (typed_seed_not_near_snoc ys u p.1 e)

  push_drops_near : (ys : List CandidateSeed) (v : CandidateSeed) → has_near near (ks ++ ys) v ≡ true → push near (ks ++ ys) v ≡ ks ++ ys
  unfolding push
  push_drops_near ys v e = rw e

  push_appends_far : (ys : List CandidateSeed) (v : CandidateSeed) → has_near near (ks ++ ys) v ≡ false → push near (ks ++ ys) v ≡ ks ++ (ys ++ v ∷ [])
  unfolding push
  push_appends_far ys v e = rw e (append_assoc ks ys (v ∷ []))

  merged_typed_seeds_not_near : (ys : List CandidateSeed) (ts : List ScheimpflugParams) → has_near near ys s ≡ false → has_near tilt_near ts t ≡ false
      → has_near near (drop (length ks) (merged_into near (ks ++ ys) (map (seed_with k) ts))) s ≡ false
  unfolding has_near merged_into
  merged_typed_seeds_not_near ys [] h e = rw drop-append_seam h
  merged_typed_seeds_not_near ys (u ∷ ts) h e =
      let v = seed_with k u in
      let p = both_false (tilt_near u t) (has_near tilt_near ts t) e in
      let P : List CandidateSeed → Type 0 = λ q. has_near near (drop (length ks) (merged_into near q (map (seed_with k) ts))) s ≡ false in
      case (has_near near (ks ++ ys) v)
      (λ b. subst P (sym (push_drops_near ys v b)) (merged_typed_seeds_not_near ys ts h p.1))
      (λ b. subst P (sym (push_appends_far ys v b)) (merged_typed_seeds_not_near (ys ++ v ∷ []) ts (typed_seed_not_near_snoc ys u h p.0) p.1))

  pub typed_seeds_not_near : (ts : List ScheimpflugParams) → has_near tilt_near ts t ≡ false → has_near near (drop (length ks) (merged_into near ks (map (seed_with k) ts))) s ≡ false
  unfolding has_near
  typed_seeds_not_near ts e = rw append-nil at (merged_typed_seeds_not_near [] ts refl e)
