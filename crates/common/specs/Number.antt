-- The number of each refusal, which other languages are told. 26 is not used. Definitions only.
use Rattle.std.specs.Prelude.{ℕ}
use Rattle.common.specs.declared.Refusal.{Refusal}
use Rattle.common.specs.declared.Refusal.TheVariants.{TooFewViews, NoTilts, BadBound, BadStep, TooMany, BadSeed, TiltNotFinite, ListTooShort, SeedWaiting, ListShortened, NothingScored, NoSeedWaiting, BadRows, NotOver, SingularTilt, DegenerateViews, BadPoints, DestinationTooShort, Coincident, SourceNotFinite, DestinationNotFinite, TooFewPoints, CountsDiffer, SourceCollinear, DestinationCollinear, TiltTooLarge, NotWritable, NotALine, NotTheRun, TiltsOffAxis, SeedOffAxis, ShareTooLarge, NoSharedPower}

abbrev pub number_of : Refusal → ℕ
number_of TooFewViews = 1
number_of NoTilts = 2
number_of BadBound = 3
number_of BadStep = 4
number_of TooMany = 5
number_of BadSeed = 6
number_of TiltNotFinite = 7
number_of ListTooShort = 8
number_of SeedWaiting = 9
number_of ListShortened = 10
number_of NothingScored = 11
number_of NoSeedWaiting = 12
number_of BadRows = 13
number_of NotOver = 14
number_of SingularTilt = 15
number_of DegenerateViews = 16
number_of BadPoints = 17
number_of DestinationTooShort = 18
number_of Coincident = 19
number_of SourceNotFinite = 20
number_of DestinationNotFinite = 21
number_of TooFewPoints = 22
number_of CountsDiffer = 23
number_of SourceCollinear = 24
number_of DestinationCollinear = 25
number_of TiltTooLarge = 27
number_of NotWritable = 28
number_of NotALine = 29
number_of NotTheRun = 30
number_of TiltsOffAxis = 31
number_of SeedOffAxis = 32
number_of ShareTooLarge = 33
number_of NoSharedPower = 34
