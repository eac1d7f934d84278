-- An output that lies in memory: its pieces, and their bytes.
use Rattle.std.specs.Prelude.{ℕ, List, map, Vec}
use Rattle.std.specs.declared.alloc.Global.{Global}
use Rattle.qc_outside.specs.declared.memory_out.MemOut.{MemOut}

-- the bytes of each piece
abbrev pub bytes_of : List (Vec ℕ Global) → List (List ℕ)
bytes_of = map (λ piece. piece.items)

-- the pieces so far
abbrev pub pieces_of : MemOut → List (List ℕ)
pieces_of out = bytes_of out.pieces.items

-- the bytes so far
abbrev pub written_of : MemOut → List ℕ
written_of out = out.written.items
