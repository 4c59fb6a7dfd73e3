-- What job `work` reads: a grammar and an input of its own, runs of letters within brackets.
use Rattle.std.specs.Prelude.{ℕ, ◌++◌, List, ◌∷◌, codes, replicate}

abbrev pub work_grammar : List ℕ
work_grammar = codes "L ::= I L | I\nI ::= 'a' | '(' L ')'\n"

-- so many letters, so many open brackets, a letter, and the brackets closed
abbrev pub work_input : ℕ → List ℕ
work_input size = replicate size 97 ++ (replicate size 40 ++ (97 ∷ replicate size 41))
