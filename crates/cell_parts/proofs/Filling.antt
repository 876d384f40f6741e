-- Ties that get new nets one by one.
use Rattle.std.proofs.Common.{◌≡◌, ◌∙◌, ◌++◌, ◌+◌, ◌<◌, ◌≤◌, ℕ, true, false, is_none, List, [], ◌∷◌, Option, Some, None, ap, sym, refl, arith, append_assoc, append-nil, drop, get_or, length, map, slice_get, slice_set, take}
use Rattle.std.specs.List.{range_with_len}
use Rattle.std.proofs.lemmas.List.{get_or-set_other, length-set, map-append, take_all, take_more, take_more_set}
use Rattle.std.proofs.lemmas.Option.{get_or_from_slice_get, slice_get-get_or, slice_get_within}
use Rattle.id_arena.specs.declared.keys.NetId.{NetId}
use Rattle.cell_parts.specs.declared.pins.Pin.{Pin}
use Rattle.cell_parts.specs.Tied.{all_nets, tie_nets}
use Rattle.cell_parts.specs.Wires.{net_numbered, nets_from, nets_in_order, new_count, new_width, tied_by}
use Rattle.cell_parts.proofs.Pairs.{count_here}

-- Up to a place the ties have the nets of their pins, and from there on they are as they were.
pub record IsFilled (pins : List Pin) (ties : List (Option (List NetId))) (first : ℕ) (now : List (Option (List NetId))) (next place : ℕ) : Type 0 where
  pub made : all_nets (take place now) ++ nets_in_order next (drop place (tied_by pins ties)) ≡ nets_in_order first (tied_by pins ties)
  pub left : (k : ℕ) → place ≤ k → get_or now k None ≡ get_or ties k None
  pub long : length now ≡ length ties
  pub few : next + new_count (drop place (tied_by pins ties)) ≤ 4294967296

-- the tie here is as it was
pub tie_was : (pins : List Pin) (ties now : List (Option (List NetId))) (first next place : ℕ) (tie : Option (List NetId))
    → IsFilled pins ties first now next place
    → slice_get now place ≡ Some tie
    → slice_get ties place ≡ Some tie
tie_was pins ties now first next place tie so_far here =
    let within : place < length ties = omega (arith, slice_get_within now place tie here, so_far.long) in
    slice_get-get_or ties place None within
    ∙ ap Some (sym (so_far.left place (omega arith)) ∙ get_or_from_slice_get now place tie None here)

module _ (pins : List Pin) (ties now new : List (Option (List NetId))) (first next place width : ℕ) (pin : Pin) (tie : Option (List NetId))
    (so_far : IsFilled pins ties first now next place)
    (here : drop place (tied_by pins ties) ≡ record { pin = pin; tie = tie } ∷ drop (place + 1) (tied_by pins ties))
    (wide : width ≡ new_width (record { pin = pin; tie = tie })) where
  -- one tie more has its nets
  filled_next : (last : Option (List NetId))
      → take (place + 1) new ≡ take place now ++ last ∷ []
      → tie_nets last ≡ nets_from next (record { pin = pin; tie = tie })
      → ((k : ℕ) → place + 1 ≤ k → get_or new k None ≡ get_or ties k None)
      → length new ≡ length ties
      → IsFilled pins ties first new (next + width) (place + 1)
  filled_next last heads nets left long =
      let rest = drop (place + 1) (tied_by pins ties) in
      record {
        made =
            ap (λ l. all_nets l ++ nets_in_order (next + width) rest) heads
            ∙ ap (λ l. l ++ nets_in_order (next + width) rest) (map-append tie_nets (take place now) (last ∷ []))
            ∙ append_assoc (all_nets (take place now)) (tie_nets last ∷ []) (nets_in_order (next + width) rest)
            ∙ ap (λ l. all_nets (take place now) ++ l ∷ nets_in_order (next + width) rest) nets
            ∙ ap (λ w. all_nets (take place now) ++ nets_from next (record { pin = pin; tie = tie }) ∷ nets_in_order (next + w) rest) wide
            ∙ ap (λ l. all_nets (take place now) ++ nets_in_order next l) (sym here)
            ∙ so_far.made;
        left = left;
        long = long;
        few = omega (arith, so_far.few, count_here (drop place (tied_by pins ties)) rest (record { pin = pin; tie = tie }) here, wide);
      }

  -- a pin without a tie gets new nets
  pub filled_by_new : (fresh : List NetId) → tie ≡ None → fresh ≡ map net_numbered (range_with_len next width) → slice_get now place ≡ Some tie → new ≡ slice_set now place (Some fresh) → IsFilled pins ties first new (next + width) (place + 1)
  filled_by_new fresh none is there set =
      let within = slice_get_within now place tie there in
      filled_next (Some fresh)
      (ap (take (place + 1)) set ∙ take_more_set now place (Some fresh) within)
      (is ∙ ap (λ w. map net_numbered (range_with_len next w)) wide ∙ sym (new_nets_of tie none))
      (λ k behind. ap (λ l. get_or l k None) set ∙ get_or-set_other now place k (Some fresh) None (λ same. omega (arith, same, behind)) ∙ so_far.left k (omega (arith, behind)))
      (ap length set ∙ length-set now place (Some fresh) ∙ so_far.long)
    where
      new_nets_of : (t : Option (List NetId)) → t ≡ None → nets_from next (record { pin = pin; tie = t }) ≡ map net_numbered (range_with_len next (new_width (record { pin = pin; tie = t })))
      new_nets_of None e = refl
      new_nets_of (Some nets) e = (let no : Some nets ≡ None = e in cc)

  -- a pin with a tie keeps it
  pub filled_as_is : is_none tie ≡ false → slice_get now place ≡ Some tie → new ≡ now → IsFilled pins ties first new (next + width) (place + 1)
  filled_as_is some there same =
      let within = slice_get_within now place tie there in
      filled_next tie
      (ap (take (place + 1)) same ∙ take_more now place tie within ∙ ap (λ t. take place now ++ t ∷ []) (get_or_from_slice_get now place tie tie there))
      (tied_nets_of tie some)
      (λ k behind. ap (λ l. get_or l k None) same ∙ so_far.left k (omega (arith, behind)))
      (ap length same ∙ so_far.long)
    where
      tied_nets_of : (t : Option (List NetId)) → is_none t ≡ false → tie_nets t ≡ nets_from next (record { pin = pin; tie = t })
      tied_nets_of None e = (let no : true ≡ false = e in cc)
      tied_nets_of (Some nets) e = refl

-- all have their nets
pub filled_all : (pins : List Pin) (ties now : List (Option (List NetId))) (first next place : ℕ)
    → IsFilled pins ties first now next place
    → drop place (tied_by pins ties) ≡ []
    → length now ≤ place
    → all_nets now ≡ nets_in_order first (tied_by pins ties)
filled_all pins ties now first next place so_far none end =
    ap all_nets (sym (take_all place now end))
    ∙ sym (append-nil (all_nets (take place now)))
    ∙ ap (λ l. all_nets (take place now) ++ nets_in_order next l) (sym none)
    ∙ so_far.made
