-- The numbers of document 01, "Operations and their refusals". The operations' definitions answer in these numbers; 0 is done.
use Rattle.std.specs.Prelude.{ℕ}
use Rattle.answers.specs.declared.Refusal.{Refusal}
use Rattle.answers.specs.declared.Refusal.TheVariants.{Target, Scissor, Viewport, Float, Vertex, Stage, FogCurve, Record, Side, Place, Bytes, Level, Rectangle, Format, Output, Code}

abbrev pub refusal_number : Refusal → ℕ
refusal_number Target = 1
refusal_number Scissor = 2
refusal_number Viewport = 3
refusal_number Float = 4
refusal_number Vertex = 5
refusal_number Stage = 6
refusal_number FogCurve = 7
refusal_number Record = 8
refusal_number Side = 9
refusal_number Place = 10
refusal_number Bytes = 11
refusal_number Level = 12
refusal_number Rectangle = 13
refusal_number Format = 14
refusal_number Output = 15
refusal_number Code = 16
