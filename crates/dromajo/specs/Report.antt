-- The one line that the program reports. Its words and their values are this project's own.
use Rattle.std.specs.Prelude.{ℕ, List, [], ◌∷◌, ◌++◌, Option, Some, None, codes, decimal}
use Rattle.commit_log.specs.Spelling.{hex}
use Rattle.sim_config.specs.declared.fault.ConfigFault.{ConfigFault}
use Rattle.sim_config.specs.declared.fault.ConfigFault.TheVariants as config_fault
use Rattle.sim_config.specs.declared.keys.Key.{Key}
use Rattle.sim_config.specs.declared.keys.Key.TheVariants.{Top, Harts, Ram, Rom, Slice, Program, Taken, Version}
use Rattle.sim_config.specs.declared.keys.Key.TheVariants as key
use Rattle.elf_load.specs.declared.fault.ElfFault.{ElfFault}
use Rattle.elf_load.specs.declared.fault.ElfFault.TheVariants.{NotElf, WrongKind, Truncated, OutsideRam, Shrinks, TooLong}
use Rattle.elf_load.specs.declared.fault.ElfField.{ElfField}
use Rattle.elf_load.specs.declared.fault.ElfField.TheVariants.{Class, Order, Type2, Machine, Phentsize, Entry, Shentsize, Link, Tohost}
use Rattle.hart_turns.specs.declared.booting.BootFault.{BootFault}
use Rattle.hart_turns.specs.declared.booting.BootFault.TheVariants.{Trap, Long}
use Rattle.cosim_check.specs.declared.verdict.Field.{Field}
use Rattle.cosim_check.specs.declared.verdict.Field.TheVariants as record_field
use Rattle.image_saver.specs.declared.fault.LoadFault.{LoadFault}
use Rattle.image_saver.specs.declared.fault.LoadFault.TheVariants as load
use Rattle.image_saver.specs.declared.fault.Part.{Part}
use Rattle.image_saver.specs.declared.fault.Part.TheVariants.{Mainram, Bootram}
use Rattle.dromajo.specs.declared.status.Status.{Status}
use Rattle.dromajo.specs.declared.status.Status.TheVariants.{Done, Usage, BadConfig, BadElf, BadCheckpoint, ReadFault, WriteFault, NoMemory, GuestEnded, BadHostWord, Disagree, BadLine, TooMany}
use Rattle.dromajo.specs.declared.status.Status.TheVariants as status
use Rattle.dromajo.specs.declared.status.Tally.{Tally}
use Rattle.dromajo.specs.declared.status.Tally.TheVariants.{Turned, Judged}
use Rattle.dromajo.specs.declared.status.Which.{Which}
use Rattle.dromajo.specs.declared.status.Which.TheVariants.{Files, Input, Out, Report}

-- the object that failed
abbrev pub object_name : Which → List ℕ
object_name Files = codes "files"
object_name Input = codes "input"
object_name Out = codes "out"
object_name Report = codes "report"

-- a field of an ELF file
abbrev pub elf_field_name : ElfField → List ℕ
elf_field_name Class = codes "class"
elf_field_name Order = codes "order"
elf_field_name Type2 = codes "type"
elf_field_name Machine = codes "machine"
elf_field_name Phentsize = codes "phentsize"
elf_field_name Entry = codes "entry"
elf_field_name Shentsize = codes "shentsize"
elf_field_name Link = codes "link"
elf_field_name Tohost = codes "tohost"

-- a key as it is spelled, and `top` for the value as a whole
abbrev pub key_name : Key → List ℕ
key_name Top = codes "top"
key_name Harts = codes "harts"
key_name Ram = codes "ram"
key_name Rom = codes "rom"
key_name Slice = codes "slice"
key_name Program = codes "program"
key_name Taken = codes "taken"
key_name key.Tohost = codes "tohost"
key_name Version = codes "version"

-- the fault of a configuration or of a meta text. An unknown key is printed with its bytes as they are
abbrev pub text_fault : ConfigFault → List ℕ
text_fault config_fault.NotJson = codes "not-json"
text_fault (config_fault.Missing key) = codes "missing " ++ key_name key
text_fault (config_fault.Unknown name) = codes "unknown " ++ name
text_fault (config_fault.WrongKind key) = codes "wrong-kind " ++ key_name key
text_fault (config_fault.OutOfRange key) = codes "out-of-range " ++ key_name key
text_fault (config_fault.TooLong len) = codes "too-long " ++ decimal len
text_fault config_fault.NoMemory = codes "no memory"

-- why a configuration is refused
abbrev pub config_text : ConfigFault → List ℕ
config_text fault = codes "config " ++ text_fault fault

-- why a program is refused
abbrev pub elf_text : ElfFault → List ℕ
elf_text NotElf = codes "elf not-elf"
elf_text (WrongKind field) = codes "elf wrong-kind " ++ elf_field_name field
elf_text (Truncated offset) = codes "elf truncated " ++ decimal offset
elf_text (OutsideRam segment) = codes "elf outside-ram " ++ decimal segment
elf_text (Shrinks segment) = codes "elf shrinks " ++ decimal segment
elf_text (TooLong len) = codes "elf too-long " ++ decimal len

-- a part of a checkpoint, by the ending of its file
abbrev pub part_name : Part → List ℕ
part_name Mainram = codes "mainram"
part_name Bootram = codes "bootram"

-- why a checkpoint is refused; the other two faults have statuses of their own
abbrev pub checkpoint_text : LoadFault → List ℕ
checkpoint_text (load.Meta fault) = codes "checkpoint " ++ text_fault fault
checkpoint_text (load.Length part want have) =
    codes "checkpoint length " ++ (part_name part ++ (codes " want=" ++ (decimal want ++ (codes " have=" ++ decimal have))))
checkpoint_text load.Failed = codes "read fault files"
checkpoint_text load.NoMemory = codes "no memory"

-- how a boot failed
abbrev pub boot_text : BootFault → List ℕ
boot_text (Trap hart pc cause) = codes "boot trap hart=" ++ (decimal hart ++ (codes " pc=" ++ (hex 16 pc ++ (codes " cause=" ++ decimal cause))))
boot_text (Long hart) = codes "boot long hart=" ++ decimal hart

-- a field of a record
abbrev pub record_field_name : Field → List ℕ
record_field_name record_field.Hart = codes "hart"
record_field_name record_field.Kind = codes "kind"
record_field_name record_field.Mode = codes "mode"
record_field_name record_field.Pc = codes "pc"
record_field_name record_field.Insn = codes "insn"
record_field_name record_field.Rd = codes "rd"
record_field_name record_field.Value = codes "value"
record_field_name record_field.StoreAt = codes "store-at"
record_field_name record_field.StoreSize = codes "store-size"
record_field_name record_field.StoreValue = codes "store-value"
record_field_name record_field.Device = codes "device"
record_field_name record_field.Volatile = codes "volatile"
record_field_name record_field.Cause = codes "cause"
record_field_name record_field.Tval = codes "tval"
record_field_name record_field.Host = codes "host"

-- a value of such a field, where it has one
abbrev pub value_text : Option ℕ → List ℕ
value_text None = codes "none"
value_text (Some value) = hex 16 value

-- the first record that is not allowed: the first field that differs, with the value that is allowed and the record's own
abbrev pub disagree_text : ℕ → Field → Option ℕ → Option ℕ → List ℕ
disagree_text n field allowed given =
    codes "disagree record=" ++ (decimal n ++ (codes " field=" ++ (record_field_name field ++ (codes " allowed=" ++ (value_text allowed ++ (codes " given=" ++ value_text given))))))

-- the text of a job that was done
abbrev pub done_text : Tally → List ℕ
done_text (Turned turns taken) = codes "done turns=" ++ (decimal turns ++ (codes " taken=" ++ decimal taken))
done_text (Judged records) = codes "passed records=" ++ decimal records

-- the text of a status; that of a job that was done has what it counted
abbrev pub status_text : Status → Tally → List ℕ
status_text Done tally = done_text tally
status_text Usage tally = codes "usage: dromajo command --name value"
status_text (BadConfig fault) tally = config_text fault
status_text (BadElf fault) tally = elf_text fault
status_text (BadCheckpoint fault) tally = checkpoint_text fault
status_text (status.BootFault fault) tally = boot_text fault
status_text (ReadFault which) tally = codes "read fault " ++ object_name which
status_text (WriteFault which) tally = codes "write fault " ++ object_name which
status_text NoMemory tally = codes "no memory"
status_text (GuestEnded code turn) tally = codes "guest ended code=" ++ (decimal code ++ (codes " turn=" ++ decimal turn))
status_text (BadHostWord word turn) tally = codes "bad host word=" ++ (hex 16 word ++ (codes " turn=" ++ decimal turn))
status_text (Disagree n field allowed given) tally = disagree_text n field allowed given
status_text (BadLine n column) tally = codes "bad line record=" ++ (decimal n ++ (codes " column=" ++ decimal column))
status_text (TooMany most) tally = codes "too many records=" ++ decimal most

-- the line of a status, with its newline
unfoldable pub report_line : Status → Tally → List ℕ
report_line status tally = status_text status tally ++ 10 ∷ []
