-- An answer's text, with that of its frame given.
use Rattle.std.specs.Prelude.{ℕ, suc, ◌*◌, Option, None, Some, option_map, List, [], ◌∷◌, ◌++◌}
use Rattle.std.specs.Borrow.{Bor}
use Rattle.basis.specs.Answers.{Accepted, kind_word}
use Rattle.basis.specs.Frame.{frame_length}
use Rattle.basis_lines.specs.Fields.{tab, newline}
use Rattle.basis_lines.specs.Numbers.{hex_text}
use Rattle.basis_lines.specs.Answers.{ok_word, dash, number_text}

-- The bytes that a reference is to, if there is one.
abbrev pub bytes_of : Option (Bor (List ℕ)) → Option (List ℕ)
bytes_of = option_map (λ lent. lent.now)

-- The last field: the bytes of the frame, if one was sent.
abbrev pub shown : Option (List ℕ) → List ℕ
shown None = dash
shown (Some frame) = hex_text frame

-- The most bytes of that field, with the tab before it.
abbrev pub frame_field : ℕ
frame_field = suc (2 * frame_length)

-- `accepted_text` of the crate basis_lines, with the text of the frame given.
unfoldable pub accepted_with : Accepted → List ℕ → List ℕ
accepted_with answer frame =
    ok_word
    ++ (tab ∷ kind_word answer.kind)
    ++ (tab ∷ number_text answer.slot)
    ++ (tab ∷ number_text answer.next)
    ++ (tab ∷ frame)
    ++ (newline ∷ [])
