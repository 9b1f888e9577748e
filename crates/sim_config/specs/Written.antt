-- The meta text that is written: compact, with the keys in the order of their bytes and no newline.
use Rattle.std.specs.Prelude.{ℕ, List, ◌++◌, codes, decimal}
use Rattle.serde_json.specs.Data.{number, unsigned, member, no_members, Members}
use Rattle.sim_config.specs.declared.values.Meta.{Meta}

-- the value that the text is
abbrev pub meta_members : Meta → Members
meta_members meta =
    member (codes "harts") (number (unsigned meta.shape.harts)) (
    member (codes "ram") (number (unsigned meta.shape.ram)) (
    member (codes "rom") (number (unsigned meta.rom)) (
    member (codes "slice") (number (unsigned meta.shape.slice)) (
    member (codes "taken") (number (unsigned meta.taken)) (
    member (codes "tohost") (number (unsigned meta.shape.tohost)) (
    member (codes "version") (number (unsigned meta.version)) no_members))))))

-- the text
unfoldable pub meta_bytes : Meta → List ℕ
meta_bytes meta =
    codes "{\"harts\":" ++ decimal meta.shape.harts
    ++ codes ",\"ram\":" ++ decimal meta.shape.ram
    ++ codes ",\"rom\":" ++ decimal meta.rom
    ++ codes ",\"slice\":" ++ decimal meta.shape.slice
    ++ codes ",\"taken\":" ++ decimal meta.taken
    ++ codes ",\"tohost\":" ++ decimal meta.shape.tohost
    ++ codes ",\"version\":" ++ decimal meta.version
    ++ codes "}"
