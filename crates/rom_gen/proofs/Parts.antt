-- Where the parts of the ROM stand.
use Rattle.std.specs.Prelude.{All, slice_index}
use Rattle.std.proofs.Common.{◌≡◌, ℕ, ◌+◌, ◌%◌, ◌^◌, ◌<◌, ◌≤◌, ⊎_elim, List, [], ◌++◌, length, sym, ap, ◌∙◌, arith, subst, length-append, zero-add}
use Rattle.std.proofs.Math.ListN.{get_or}
use Rattle.std.proofs.lemmas.Bool.{cases_eq}
use Rattle.std.proofs.lemmas.List.{append-nil, get_or-map, get_or-set_same, get_or-set_other, length-map, length-set}
use Rattle.board_bus.specs.Board.{BoardState, IsFit as IsFitBoard}
use Rattle.hart_step.specs.declared.hart.Hart.{Hart}
use Rattle.hart_step.specs.Memory.{most_rom, rom_base}
use Rattle.rom_gen.specs.Items.{StandAt, code}
use Rattle.rom_gen.specs.Rom.{all_blocks, device_bytes, device_place, device_size, dispatch_insns, first_place, hart_bytes, start_places, rom_bytes, block_places, table, addresses, dispatch_bytes}
use Rattle.rom_gen.proofs.ItemSteps.{code_length, stand_first, stand_second}
use Rattle.rom_gen.proofs.RomParts.{block_stands, blocks_length, device_even, device_length, device_small, start_even, start_small, starts_length, table_length}

-- ---- where the parts stand

pub record Parts (board : BoardState) (harts : List Hart) (rom : List ℕ) : Type 0 where
  pub small : length rom ≤ most_rom
  pub dispatch : StandAt (dispatch_bytes (addresses (start_places board harts))) 0 rom
  pub device : StandAt (device_bytes board (rom_base + first_place board harts)) (device_place harts) rom
  pub blocks : (i : ℕ) (d : Hart) → i < length harts → StandAt (hart_bytes (get_or harts i d)) (slice_index (block_places (first_place board harts) harts) i) rom

pub places_length : (board : BoardState) (harts : List Hart) → length (start_places board harts) ≡ length harts
places_length board harts = length-set (block_places (first_place board harts) harts) 0 (device_place harts) ∙ starts_length (first_place board harts) harts

pub addresses_length : (board : BoardState) (harts : List Hart) → length (addresses (start_places board harts)) ≡ length harts
addresses_length board harts = length-map (start_places board harts) (λ place. rom_base + place) ∙ places_length board harts

dispatch_length : (board : BoardState) (harts : List Hart) → length (dispatch_bytes (addresses (start_places board harts))) ≡ device_place harts
unfolding dispatch_bytes
dispatch_length board harts =
    let starts : List ℕ = addresses (start_places board harts) in
    omega (arith, length-append (code dispatch_insns) (table starts), code_length dispatch_insns, table_length starts, addresses_length board harts)

-- they stand one behind the other
pub parts : (board : BoardState) (harts : List Hart) → IsFitBoard board → length harts ≤ 8 → Parts board harts (rom_bytes board harts)
parts board harts fit few =
    let first : ℕ = first_place board harts in
    let a : List ℕ = dispatch_bytes (addresses (start_places board harts)) in
    let d : List ℕ = device_bytes board (rom_base + first) in
    let e : List ℕ = all_blocks harts in
    let rom : List ℕ = a ++ (d ++ e) in
    let a_length : length a ≡ device_place harts = dispatch_length board harts in
    let d_length : length d ≡ device_size board = device_length board (rom_base + first) in
    let whole : StandAt rom 0 rom = ([], sym (append-nil rom)) in
    let behind_a : StandAt (d ++ e) (device_place harts) rom = subst (λ q. StandAt (d ++ e) q rom) (zero-add (length a) ∙ a_length) (stand_second a (d ++ e) 0 rom whole) in
    let behind_d : StandAt e first rom = subst (λ q. StandAt e q rom) (ap (λ n. device_place harts + n) d_length) (stand_second d e (device_place harts) rom behind_a) in
    record {
      small = omega (arith, length-append a (d ++ e), length-append d e, a_length, d_length, device_small board fit, blocks_length harts, few);
      dispatch = stand_first a (d ++ e) 0 rom whole;
      device = stand_first d e (device_place harts) rom behind_a;
      blocks = λ i x within. block_stands harts first i x rom within behind_d;
    }

-- where a hart goes on
pub record IsStart (place : ℕ) : Type 0 where
  pub aligned : place % 8 ≡ 0
  pub near : place ≤ most_rom

-- each start is a place of the ROM, at a multiple of 8
pub start_is_place : (board : BoardState) (harts : List Hart) (h : ℕ) → IsFitBoard board → length harts ≤ 8 → h < length harts → IsStart (slice_index (start_places board harts) h)
start_is_place board harts h fit few within =
    let first : ℕ = first_place board harts in
    ⊎_elim
    (λ e. let is : slice_index (start_places board harts) h ≡ device_place harts = ap (slice_index (start_places board harts)) e ∙ get_or-set_same (block_places first harts) 0 (device_place harts) 0 (omega (arith, starts_length first harts)) in record { aligned = omega arith; near = omega arith })
    (λ a. let is : slice_index (start_places board harts) h ≡ slice_index (block_places first harts) h = get_or-set_other (block_places first harts) 0 h (device_place harts) 0 a in
    record { aligned = ap (λ q. q % 8) is ∙ start_even harts first h (omega (arith, device_even board)) within; near = omega (arith, start_small harts first h within, device_small board fit) })
    (cases_eq h 0)

pub address_at : (places : List ℕ) (h d : ℕ) → h < length places → get_or (addresses places) h d ≡ rom_base + slice_index places h
address_at places h d within = get_or-map (λ place. rom_base + place) places h 0 d (omega (arith, length-map places (λ place. rom_base + place)))

pub addresses_fit : (board : BoardState) (harts : List Hart) → IsFitBoard board → length harts ≤ 8 → All (λ v. v < 2 ^ 64) (addresses (start_places board harts))
addresses_fit board harts fit few i d within =
    let inside : i < length harts = omega (arith, addresses_length board harts) in
    let place : IsStart (slice_index (start_places board harts) i) = start_is_place board harts i fit few inside in
    omega (arith, address_at (start_places board harts) i d (omega (arith, places_length board harts)), place.near)
