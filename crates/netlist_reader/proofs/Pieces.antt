-- Words that are due, one after another.
use Rattle.std.proofs.Common.{◌≡◌, ◌+◌, ◌<◌, ℕ, List, [], ◌∷◌, ◌++◌, length, get_or, take, drop, map, sym, ap, ◌∙◌}
use Rattle.std.proofs.lemmas.List.{drop_more, map-append, take-append-drop}
use Rattle.netlist_reader.specs.Forms.{piece_word}
use Rattle.netlist_reader.specs.declared.piece.Piece.{Piece}

pub pieces_split : (pieces : List Piece) (k : ℕ) (piece : Piece) → k < length pieces → piece ≡ get_or pieces k piece → map piece_word pieces ≡ map piece_word (take k pieces) ++ (piece_word piece ∷ [] ++ map piece_word (drop (k + 1) pieces))
pieces_split pieces k piece within is =
    ap (map piece_word) (sym (take-append-drop k pieces)) ∙ map-append piece_word (take k pieces) (drop k pieces)
    ∙ ap (λ rest. map piece_word (take k pieces) ++ map piece_word rest) (drop_more pieces k piece within ∙ ap (λ p. p ∷ drop (k + 1) pieces) (sym is))
