-- Nearness isn't transitive, so a seed can be near several kept ones: 0.1 and 0.1 + 1.5e-12 are both kept, and 0.1 + 0.8e-12 is near both. It is dropped, and the
-- search names the newer of the two, by tilt alone and by all six numbers. Computed. Assumes nothing.
use Rattle.std.specs.Prelude.{refl, Bool, []}
use Rattle.std.specs.Float.Ieee.{of_bits, sub, lt}
use Rattle.float.specs.Float.{abs_of}
use Rattle.seeds.specs.Merge.{has_near, newest_near, push, merged_into}
use Rattle.seeds.specs.Rules.{closer, tilt_near, camera_near, near}
use Rattle.seeds.proofs.MergeLaws.{newest_found, newest_named, merged_covers_each, merged_fresh}
use Rattle.seeds.specs.Theorem.{NamesNewer, Merging, MergingRight}

pub names_newer : NamesNewer
unfolding merged_into push has_near newest_near near tilt_near camera_near closer abs_of of_bits sub lt
names_newer = record { kept = refl; named = refl; seeds_kept = refl; seed_named = refl }

merging : {A : Type 0} (near : A → A → Bool) → Merging near
merging near = record {
  covers = λ ss m. merged_covers_each near [] ss m;
  fresh = merged_fresh near;
  newest_found = newest_found near;
  newest_named = newest_named near;
}

pub merging_right : MergingRight
merging_right = record { of_tilts = merging tilt_near; of_seeds = merging near; names_newer = names_newer }
