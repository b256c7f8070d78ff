-- A table that cuts a list into parts, in either form: the parts' lengths, or where they end.
use Rattle.std.specs.Prelude.{◌≡◌, ◌⊎◌, List, [], ◌∷◌, ℕ, ◌+◌, ◌≤◌, ◌<◌, drop, Result, Ok, Err}
use Rattle.rules.specs.declared.Unsound.{Unsound}
use Rattle.rules.specs.Lists.{parts_of}
use Rattle.rules.specs.Tables.{lengths_from}
use Rattle.outlines.specs.declared.rows.Form.{Form}
use Rattle.outlines.specs.declared.rows.Form.TheVariants.{Lengths, Ends}

-- where a part ends that starts here and has this entry
abbrev pub end_at : Form → ℕ → ℕ → ℕ
end_at Lengths start entry = start + entry
end_at Ends start entry = entry

-- the lengths that the entries stand for
abbrev pub lengths_by : Form → ℕ → List ℕ → List ℕ
lengths_by Lengths start table = table
lengths_by Ends start table = lengths_from start table

-- where the last part ends
unfoldable pub end_by : Form → ℕ → List ℕ → ℕ
end_by form start [] = start
end_by form start (entry ∷ table) = end_by form (end_at form start entry) table

-- no part ends before it starts or past the limit
unfoldable pub Within : Form → ℕ → ℕ → List ℕ → Type 0
Within form limit start [] = start ≤ limit
Within form limit start (entry ∷ table) = (start ≤ end_at form start entry) × Within form limit (end_at form start entry) table

-- the parts of a list from a place on
unfoldable pub parts_from : {A : Type 0} → Form → List A → ℕ → List ℕ → List (List A)
parts_from form xs start table = parts_of (lengths_by form start table) (drop start xs)

-- what `end_of` says
abbrev pub EndSays : Form → ℕ → ℕ → ℕ → Result ℕ Unsound → Type 0
EndSays form entry start limit (Ok end) = (end ≡ end_at form start entry) × (start ≤ end) × (end ≤ limit)
EndSays form entry start limit (Err _) = (limit < end_at form start entry) ⊎ (end_at form start entry < start)

-- what `end_of_all` says
abbrev pub RunSays : Form → List ℕ → ℕ → ℕ → Result ℕ Unsound → Type 0
RunSays form table start limit (Ok end) = (end ≡ end_by form start table) × (end ≤ limit)
RunSays form table start limit (Err _) = Within form limit start table → ⊥
