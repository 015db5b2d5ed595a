-- `points::linalg::normalizing` meets its contract. Assumes nothing.
use Rattle.points.specs.Linalg.{similarity_of}
use Rattle.points.proofs.linalg.normalizing.Goals as goal

pub returns : goal.returns
unfolding similarity_of
returns c = simp (c.scaled_to.ensures, c.mean_distance.ensures, c.centroid-c.ensures)
