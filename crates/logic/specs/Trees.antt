-- Formulas and programs of dynamic logic with converse, as trees.
use Rattle.std.specs.Prelude.{ℕ}

mutual
  -- what can be true at a mode
  pub data Formula : Type 0 where
    never : Formula
    flag : ℕ → Formula
    negation : Formula → Formula
    both : Formula → Formula → Formula
    either : Formula → Formula → Formula
    implies : Formula → Formula → Formula
    box : Program → Formula → Formula
    diamond : Program → Formula → Formula

  -- what can lead from a mode to a mode
  pub data Program : Type 0 where
    command : ℕ → Program
    sequence : Program → Program → Program
    choice : Program → Program → Program
    repetition : Program → Program
    converse : Program → Program
    test : Formula → Program
