-- A line that was read, as what it asks for.
use Rattle.std.specs.Prelude.{◌≡◌, List, ℕ, ◌++◌, ◌≤◌, true, Option, Some, None, codes, ⊤}
use Rattle.std.specs.Option.{option_map}
use Rattle.std.specs.Borrow.{Bor}
use Rattle.bounds_place.specs.Sizes.{in_range}
use Rattle.command_line.specs.Lines as lines
use Rattle.command_line.specs.declared.line.Line.{Line}
use Rattle.command_line.specs.declared.line.Line.TheVariants.{OfFile, Generate}
use Rattle.command_line.specs.declared.line.Mode.{Mode}
use Rattle.command_line.specs.declared.line.Mode.TheVariants.{Run, Build, Exec, Audit, Mean, ShowMap, ShowListing}
use Rattle.command_line.specs.declared.options.Options.{Options}

abbrev pub mode_of : List ℕ → Mode → lines.Mode
mode_of name (Run steps sizes) = lines.Run steps sizes
mode_of name (Build None sizes) = lines.Build (name ++ codes ".elf") sizes
mode_of name (Build (Some elf) sizes) = lines.Build elf.now sizes
mode_of name (Exec steps) = lines.Exec steps
mode_of name Audit = lines.Audit
mode_of name (Mean turns) = lines.Mean turns
mode_of name (ShowMap sizes) = lines.ShowMap sizes
mode_of name (ShowListing sizes) = lines.ShowListing sizes

-- the text behind a reference, where there is one
abbrev pub text_in : Option (Bor (List ℕ)) → Option (List ℕ)
text_in = option_map (λ s. s.now)

abbrev pub options_of : Options → lines.Options
options_of o = record { steps = o.steps; turns = o.turns; out = text_in o.out; heap = o.heap; stack = o.stack }

abbrev pub line_of : Line → lines.Line
line_of (OfFile name mode) = lines.OfFile name.now (mode_of name.now mode)
line_of (Generate n steps sizes) = lines.Generate n steps sizes

-- the sizes for which a mode builds are in range
abbrev pub IsInRange : Mode → Type 0
IsInRange (Run steps sizes) = in_range sizes ≡ true
IsInRange (Build elf sizes) = in_range sizes ≡ true
IsInRange (Exec steps) = ⊤
IsInRange Audit = ⊤
IsInRange (Mean turns) = ⊤
IsInRange (ShowMap sizes) = in_range sizes ≡ true
IsInRange (ShowListing sizes) = in_range sizes ≡ true

-- and those of a line, as is the number of functions that it generates
abbrev pub IsLineInRange : Line → Type 0
IsLineInRange (OfFile name mode) = IsInRange mode
IsLineInRange (Generate n steps sizes) = (n ≤ 64) × (in_range sizes ≡ true)
