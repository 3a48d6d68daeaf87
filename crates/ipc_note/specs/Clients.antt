-- Whom a connection serves.
use Rattle.std.specs.Prelude.{ℕ, List, [], ◌∷◌, Option, Some, None, ◌==◌, if◌then◌else◌}

-- the client that is served, where it is another thread than the caller
abbrev pub client_beside : Option ℕ → ℕ → List ℕ
client_beside None me = []
client_beside (Some client) me = if client == me then [] else client ∷ []
