-- The library's version: 5.3, its two numbers side by side.
use Rattle.std.specs.Prelude.{ℕ, ◌+◌, ◌*◌}

abbrev pub VERSION : ℕ
VERSION = 5 * 256 + 3
