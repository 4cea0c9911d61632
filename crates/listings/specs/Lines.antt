-- What an output holds after a text was put into it.
use Rattle.std.specs.Prelude.{ℕ, ◌+◌, List, ◌++◌, length, take, drop}

-- the text from a place on, and the other places as they were
abbrev pub put_at : ℕ → List ℕ → List ℕ → List ℕ
put_at place text output = take place output ++ (text ++ drop (place + length text) output)
