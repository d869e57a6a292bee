-- The paper's trace of twelve words (document 01, "Bench examples"): what is read, and what is printed.
use Rattle.std.specs.Prelude.{ℕ, List, [], ◌∷◌, ◌++◌}
use Rattle.lines.specs.Text.{characters}

-- C0BF 0000 4090 4014 4004 2000 0000 4090 4010 0000 4091 6000, high byte first.
unfoldable pub example_input : List ℕ
example_input =
    0xC0 ∷ 0xBF ∷ 0x00 ∷ 0x00 ∷ 0x40 ∷ 0x90 ∷ 0x40 ∷ 0x14 ∷ 0x40 ∷ 0x04 ∷ 0x20 ∷ 0x00
    ∷ 0x00 ∷ 0x00 ∷ 0x40 ∷ 0x90 ∷ 0x40 ∷ 0x10 ∷ 0x00 ∷ 0x00 ∷ 0x40 ∷ 0x91 ∷ 0x60 ∷ 0x00 ∷ []

unfoldable pub example_text : List ℕ
example_text =
    characters "word ref rep byte out\n"
    ++ characters "C0BF 0 0 00 000\n"
    ++ characters "0000 0 0 00 000\n"
    ++ characters "4090 0 1 00 000\n"
    ++ characters "4014 0 1 00 000\n"
    ++ characters "4004 0 1 00 000\n"
    ++ characters "2000 0 0 00 041\n"
    ++ characters "0000 0 0 00 041\n"
    ++ characters "4090 0 1 00 041\n"
    ++ characters "4010 0 1 00 041\n"
    ++ characters "0000 0 0 00 041\n"
    ++ characters "4091 0 1 00 041\n"
    ++ characters "6000 0 3 15 041\n"

-- The same and a lone last byte.
unfoldable pub lone_input : List ℕ
lone_input = example_input ++ 0xC0 ∷ []

unfoldable pub lone_text : List ℕ
lone_text = example_text ++ characters "odd\n"
