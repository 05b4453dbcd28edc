-- What is given under each name says which line it is.
use Rattle.std.proofs.Common.{◌≡◌, ℕ, true, List, Option, Some, None, Bool, sym, subst, ap, ◌∙◌}
use Rattle.std.specs.Prelude.{MatchOption, codes}
use Rattle.bounds_place.specs.Sizes.{in_range}
use Rattle.clap.specs.Words.{Text}
use Rattle.command_line.specs.Asked.{line_of}
use Rattle.command_line.specs.Lines as lines
use Rattle.command_line.specs.Lines.{Options, HasNumbers, IsNumberIfGiven, IsGiven, IsLine, Takes, Asks, given_in}
use Rattle.command_line.specs.Lines.{number_in, options_in, sizes_of}
use Rattle.command_line.specs.declared.line.Line.{Line}

module _ (f g : Text → Option Text) (same : (id : Text) → f id ≡ g id) where
  is_number : (id : Text) → IsNumberIfGiven (f id) → IsNumberIfGiven (g id)
  is_number id h = subst IsNumberIfGiven (same id) h

  numbers : HasNumbers f → HasNumbers g
  numbers h = record {
    steps = is_number (codes "steps") h.steps;
    turns = is_number (codes "turns") h.turns;
    heap = is_number (codes "heap") h.heap;
    stack = is_number (codes "stack") h.stack;
  }

  options : options_in f ≡ options_in g
  options =
      ap (λ (t : Option Text). record {
        steps = number_in t;
        turns = number_in (f (codes "turns"));
        out = f (codes "out");
        heap = number_in (f (codes "heap"));
        stack = number_in (f (codes "stack"));
      })
      (same (codes "steps"))
      ∙ ap (λ (t : Option Text). record {
        steps = number_in (g (codes "steps"));
        turns = number_in t;
        out = f (codes "out");
        heap = number_in (f (codes "heap"));
        stack = number_in (f (codes "stack"));
      })
      (same (codes "turns"))
      ∙ ap (λ (t : Option Text). record {
        steps = number_in (g (codes "steps"));
        turns = number_in (g (codes "turns"));
        out = t;
        heap = number_in (f (codes "heap"));
        stack = number_in (f (codes "stack"));
      })
      (same (codes "out"))
      ∙ ap (λ (t : Option Text). record {
        steps = number_in (g (codes "steps"));
        turns = number_in (g (codes "turns"));
        out = g (codes "out");
        heap = number_in t;
        stack = number_in (f (codes "stack"));
      }) (same (codes "heap"))
      ∙ ap (λ (t : Option Text). record {
        steps = number_in (g (codes "steps"));
        turns = number_in (g (codes "turns"));
        out = g (codes "out");
        heap = number_in (g (codes "heap"));
        stack = number_in t;
      }) (same (codes "stack"))

  -- the same is given, so it is the same line
  same_given : (line : lines.Line) → IsGiven f line → IsGiven g line
  same_given line h = record {
    numbers = numbers h.numbers;
    ranged = ap (λ (o : Options). in_range (sizes_of o)) (sym options) ∙ h.ranged;
    word = h.word;
    mode = sym (same (codes "mode")) ∙ h.mode;
    name = h.name;
    file = sym (same (codes "file")) ∙ h.file;
    asks = subst (λ (o : Options). Asks h.word h.name o line) options h.asks;
  }

-- what is found of the words that the command takes
pub line_found : (words : List Text) (given : Text → Option Text) → Takes words →
    ((id : Text) → given id ≡ given_in words id) → (r : Option Line)
    → MatchOption r ((line : lines.Line) → IsGiven given line → ⊥) (λ line. IsGiven given (line_of line))
    → MatchOption r ((line : lines.Line) → IsLine words line → ⊥) (λ line. IsLine words (line_of line))
line_found words given taken same None h =
    λ line is. h line (same_given (given_in words) given (λ id. sym (same id)) line is.1)
line_found words given taken same (Some line) h = (taken, same_given given (given_in words) same (line_of line) h)
