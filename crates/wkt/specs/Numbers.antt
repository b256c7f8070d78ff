-- What reading and writing Well-Known Text answer, in numbers (document 02, R-1).
use Rattle.std.specs.Prelude.{ℕ, Err, Ok, Result}
use Rattle.text.specs.Numbers.{size_read}
use Rattle.text.specs.Readings.{reading_number, reading_detail}
use Rattle.wkt.specs.declared.numbers.ReadNumbers.{ReadNumbers}
use Rattle.wkt.specs.declared.numbers.WriteNumbers.{WriteNumbers}
use Rattle.wkt.specs.Writings.{writing_number, writing_detail}
use Rattle.lines.specs.declared.Size.{Size}
use Rattle.rules.specs.declared.Refusal.{Refusal}

abbrev pub read_numbers : (Result Size Refusal) → ReadNumbers
read_numbers reading = record { refusal = reading_number reading; detail = reading_detail reading; corners = (size_read reading).corners; rings = (size_read reading).rings; polygons = (size_read reading).polygons }

-- how many bytes were written
abbrev pub bytes_written : (Result ℕ Refusal) → ℕ
bytes_written (Ok bytes) = bytes
bytes_written (Err refusal) = 0

abbrev pub write_numbers : (Result ℕ Refusal) → WriteNumbers
write_numbers writing = record { refusal = writing_number writing; table = writing_detail writing; length = bytes_written writing }
