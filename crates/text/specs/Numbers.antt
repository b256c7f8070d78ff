-- What reading a text answers, in numbers (document 01, item 10 and refusals 1, 2 and 11).
use Rattle.std.specs.Prelude.{Err, Ok, Result}
use Rattle.rules.specs.declared.Kind.TheVariants.{Polygons}
use Rattle.rules.specs.Numbers.{kind_number}
use Rattle.lines.specs.declared.Size.{Size}
use Rattle.text.specs.declared.numbers.ReadingNumbers.{ReadingNumbers}
use Rattle.text.specs.Readings.{reading_number, reading_detail}
use Rattle.rules.specs.declared.Refusal.{Refusal}

-- the size of the plan that was read; that of an empty list where the text is refused
abbrev pub size_read : (Result Size Refusal) → Size
size_read (Ok size) = size
size_read (Err refusal) = record { kind = Polygons; corners = 0; rings = 0; polygons = 0 }

abbrev pub reading_numbers : (Result Size Refusal) → ReadingNumbers
reading_numbers reading =
    record {
      refusal = reading_number reading;
      detail = reading_detail reading;
      kind = kind_number (size_read reading).kind;
      corners = (size_read reading).corners;
      rings = (size_read reading).rings;
      polygons = (size_read reading).polygons;
    }
