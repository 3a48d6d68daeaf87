-- The fields of a line after its first, as the reader holds them.
use Rattle.std.specs.Prelude.{◌≡◌, ℕ, ◌<◌, List, [], ◌∷◌, length}
use Rattle.job_script.specs.declared.text.Operands.{Operands}
use Rattle.job_script.specs.declared.text.Operands.TheVariants as operands

-- these are the fields
abbrev pub Shows : Operands → List (List ℕ) → Type 0
Shows operands.None fields = fields ≡ []
Shows (operands.One a) fields = fields ≡ a.now ∷ []
Shows (operands.Two a b) fields = fields ≡ a.now ∷ b.now ∷ []
Shows operands.More fields = 2 < length fields
