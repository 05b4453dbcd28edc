-- The lines of words that the command takes.
use Rattle.std.specs.Prelude.{◌≡◌, ◌<◌, ℕ, ◌≤◌, true, List, [], ◌++◌, length, Option, Some, None, codes, decimal, ⊤}
use Rattle.std.specs.Option.{unwrap_or, option_map}
use Rattle.std.specs.Str.Parse.{IsNumeral, digits_value}
use Rattle.bounds_place.specs.declared.sizes.Sizes.{Sizes}
use Rattle.bounds_place.specs.Sizes.{in_range, usual}
use Rattle.clap.specs.Faults.{fault_of}
use Rattle.clap.specs.Words.{App, Text, first_of, matches_of, new_app, with_rule}
use Rattle.command_line.specs.Rules.{word_rule, option_rule}

-- What is done with a file: its C program is built and run, or is built and put under a name; its image is run, or is
-- audited; its C program is run by its strict meaning; or it is built, and the map or the listing shown.
pub data Mode : Type 0 where
  Run : (steps : ℕ) → (sizes : Sizes) → Mode
  Build : (elf : List ℕ) → (sizes : Sizes) → Mode
  Exec : (steps : ℕ) → Mode
  Audit : Mode
  Mean : (turns : ℕ) → Mode
  ShowMap : (sizes : Sizes) → Mode
  ShowListing : (sizes : Sizes) → Mode

-- What a line of words asks for: a mode with the file of a name, or to generate a C file of so many functions and run
-- it
pub data Line : Type 0 where
  OfFile : (name : List ℕ) → (mode : Mode) → Line
  Generate : (functions : ℕ) → (steps : ℕ) → (sizes : Sizes) → Line

-- ---- the words, as `clap` takes them: one simple command

abbrev pub command : App
command =
    with_rule
    (with_rule
    (with_rule
    (with_rule
    (with_rule
    (with_rule
    (with_rule (new_app (codes "cheric")) (word_rule (codes "mode")))
    (word_rule (codes "file")))
    (option_rule (codes "steps")))
    (option_rule (codes "turns")))
    (option_rule (codes "out")))
    (option_rule (codes "heap")))
    (option_rule (codes "stack"))

-- the command takes the words
abbrev pub Takes : List Text → Type 0
Takes words = fault_of command words ≡ []

-- what they give under a name
abbrev pub given_in : List Text → Text → Option Text
given_in words id = first_of id (matches_of command words)

-- ---- the options

-- a number is one to thirteen decimal digits, and at most 1,000,000,000,000
pub record IsNumber (word : Text) : Type 0 where
  pub numeral : IsNumeral 10 word
  pub short : length word ≤ 13
  pub at_most : digits_value 10 word ≤ 1000000000000

abbrev pub IsNumberIfGiven : Option Text → Type 0
IsNumberIfGiven None = ⊤
IsNumberIfGiven (Some word) = IsNumber word

abbrev pub number_in : Option Text → Option ℕ
number_in = option_map (digits_value 10)

-- what options set
pub record Options : Type 0 where
  pub steps : Option ℕ
  pub turns : Option ℕ
  pub out : Option (List ℕ)
  pub heap : Option ℕ
  pub stack : Option ℕ

abbrev pub options_in : (Text → Option Text) → Options
options_in given = record {
  steps = number_in (given (codes "steps"));
  turns = number_in (given (codes "turns"));
  out = given (codes "out");
  heap = number_in (given (codes "heap"));
  stack = number_in (given (codes "stack"));
}

pub record HasNumbers (given : Text → Option Text) : Type 0 where
  pub steps : IsNumberIfGiven (given (codes "steps"))
  pub turns : IsNumberIfGiven (given (codes "turns"))
  pub heap : IsNumberIfGiven (given (codes "heap"))
  pub stack : IsNumberIfGiven (given (codes "stack"))

-- the limit of instructions where the words name none
abbrev pub default_steps : ℕ
default_steps = 100000000

-- and that of turns
abbrev pub default_turns : ℕ
default_turns = 10000000

-- what an option sets, or what stands where it is not there
abbrev pub steps_of : Options → ℕ
steps_of o = unwrap_or o.steps default_steps

abbrev pub turns_of : Options → ℕ
turns_of o = unwrap_or o.turns default_turns

abbrev pub sizes_of : Options → Sizes
sizes_of o = record { heap = unwrap_or o.heap usual.heap; stack = unwrap_or o.stack usual.stack }

abbrev pub elf_of : List ℕ → Options → List ℕ
elf_of name o = unwrap_or o.out (name ++ codes ".elf")

-- ---- the line

-- a number of functions is from 1 to 64, without leading zeros
pub record IsCount (word : Text) (n : ℕ) : Type 0 where
  pub is : word ≡ decimal n
  pub some : 1 ≤ n
  pub at_most : n ≤ 64

-- a word asks for a mode, which takes of the options those that it uses
abbrev pub AsksMode : Text → Text → Options → Mode → Type 0
AsksMode word name o (Run steps sizes) = (word ≡ codes "run") × (steps ≡ steps_of o) × (sizes ≡ sizes_of o)
AsksMode word name o (Build elf sizes) = (word ≡ codes "build") × (elf ≡ elf_of name o) × (sizes ≡ sizes_of o)
AsksMode word name o (Exec steps) = (word ≡ codes "exec") × (steps ≡ steps_of o)
AsksMode word name o Audit = word ≡ codes "audit"
AsksMode word name o (Mean turns) = (word ≡ codes "mean") × (turns ≡ turns_of o)
AsksMode word name o (ShowMap sizes) = (word ≡ codes "map") × (sizes ≡ sizes_of o)
AsksMode word name o (ShowListing sizes) = (word ≡ codes "list") × (sizes ≡ sizes_of o)

-- the words MODE and FILE ask for a line
abbrev pub Asks : Text → Text → Options → Line → Type 0
Asks word file o (OfFile name mode) = (name ≡ file) × AsksMode word file o mode
Asks word file o (Generate n steps sizes) =
    (word ≡ codes "gen") × IsCount file n × (steps ≡ steps_of o) × (sizes ≡ sizes_of o)

-- what is given is a line: the numbers are numbers, the sizes are in range, and the words MODE and FILE ask for it
pub record IsGiven (given : Text → Option Text) (line : Line) : Type 0 where
  pub numbers : HasNumbers given
  pub ranged : in_range (sizes_of (options_in given)) ≡ true
  pub word : Text
  pub mode : given (codes "mode") ≡ Some word
  pub name : Text
  pub file : given (codes "file") ≡ Some name
  pub asks : Asks word name (options_in given) line

-- The words are the line: behind the program's name stand the mode, the file's name, and options anywhere, as `clap`
-- takes them
abbrev pub IsLine : List Text → Line → Type 0
IsLine words line = Takes words × IsGiven (given_in words) line
