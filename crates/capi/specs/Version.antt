-- The version of what is exported: 65,536 times the major number, 256 times the minor, and the patch number; here
-- 0.12.0. It is raised with each change of a struct, a signature or a number that crosses the C boundary
-- (CHANGELOG.md). Definitions only.
use Rattle.std.specs.Prelude.{ℕ}

abbrev pub version : ℕ
version = 0x0c00
