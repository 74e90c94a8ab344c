-- How a record's bytes are written.
use Rattle.std.specs.Prelude.{ℕ, List}
use Rattle.text.specs.Text.{hex_text}
use Rattle.show.specs.declared.Form.{Form}
use Rattle.show.specs.declared.Form.TheVariants.{Hex, Plain}

-- bytes in hex, or as they are
abbrev pub in_form : Form → List ℕ → List ℕ
in_form Hex bytes = hex_text bytes
in_form Plain bytes = bytes
