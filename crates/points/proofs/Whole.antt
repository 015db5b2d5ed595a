-- Where a list has an even length, as many numbers are written as it has. Assumes nothing.
use Rattle.std.proofs.Common.{List, ◌≡◌, ap, ◌∙◌, ℕ, ◌++◌, ◌%◌, arith, length, drop, Float}
use Rattle.camera.specs.declared.math.Pt2.{Pt2}
use Rattle.points.specs.Points.{map_points}
use Rattle.points.specs.Walk.{mapped_length}
use Rattle.points.specs.Maps.{written}

pub even_list_written_whole : (f : Pt2 → Pt2) (s to : List Float) → length s % 2 ≡ 0 → map_points f s ++ drop (length (map_points f s)) to ≡ written f s to
even_list_written_whole f s to h = ap (λ (n : ℕ). map_points f s ++ drop n to) (mapped_length f s ∙ omega (arith, h))
