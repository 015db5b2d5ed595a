-- The pinhole's intrinsics: from a pixel to the sensor's coordinates and back, each operation rounded.
-- Definitions only.
use Rattle.float.specs.Binary64.{◌+₆₄◌, ◌-₆₄◌, ◌*₆₄◌, ◌/₆₄◌}
use Rattle.camera.specs.declared.math.Pt2.{Pt2}
use Rattle.camera.specs.declared.intrinsics.FxFyCxCy.{FxFyCxCy}

abbrev pub pixel_to_sensor : FxFyCxCy → Pt2 → Pt2
pixel_to_sensor k p = record { x = (p.x -₆₄ k.cx) /₆₄ k.fx; y = (p.y -₆₄ k.cy) /₆₄ k.fy }

abbrev pub sensor_to_pixel : FxFyCxCy → Pt2 → Pt2
sensor_to_pixel k p = record { x = k.fx *₆₄ p.x +₆₄ k.cx; y = k.fy *₆₄ p.y +₆₄ k.cy }
