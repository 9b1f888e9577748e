-- What an object in memory holds: its bytes or files, its calls and its counts of faults.
use Rattle.std.specs.Prelude.{ℕ, List, drop}
use Rattle.std.specs.Option.{option_map}
use Rattle.std.specs.BTreeMap.{get_by_text}
use Rattle.outside_io.specs.Calls.{AreQuiet}
use Rattle.outside_io.specs.Causes.{CanRise}
use Rattle.outside_io.specs.Content.{Held}
use Rattle.outside_io.specs.declared.calls.Calls.{Calls}
use Rattle.outside_io.specs.declared.sure.SureSource.{SureSource}
use Rattle.outside_io.specs.declared.sure.SureSink.{SureSink}
use Rattle.outside_io.specs.declared.sure.SureFiles.{SureFiles}
use Rattle.outside_io.specs.declared.memory.MemSource.{MemSource}
use Rattle.outside_io.specs.declared.memory.MemSink.{MemSink}
use Rattle.outside_io.specs.declared.memory.MemFiles.{MemFiles}

-- ---- objects that never fail

-- the bytes still to be read
abbrev pub sure_left : SureSource → List ℕ
sure_left source = drop source.at source.bytes.items

-- the bytes written so far
abbrev pub sure_bytes : SureSink → List ℕ
sure_bytes sink = sink.bytes.items

-- from a name's bytes to what the file of that name holds
abbrev pub sure_held : SureFiles → Held
sure_held files name = option_map (λ bytes. bytes.items) (get_by_text files.files name)

-- ---- objects that fail at the calls that are listed

-- the bytes still to be read
abbrev pub source_left : MemSource → List ℕ
source_left source = sure_left source.source

-- its calls
abbrev pub source_calls : MemSource → Calls
source_calls source = source.calls

-- its count of faults
abbrev pub source_faults : MemSource → ℕ
source_faults source = source.faults

-- the bytes written so far
abbrev pub sink_bytes : MemSink → List ℕ
sink_bytes sink = sure_bytes sink.sink

-- its calls
abbrev pub sink_calls : MemSink → Calls
sink_calls sink = sink.calls

-- its count of faults
abbrev pub sink_faults : MemSink → ℕ
sink_faults sink = sink.faults

-- from a name's bytes to what the file of that name holds
abbrev pub files_held : MemFiles → Held
files_held files = sure_held files.files

-- their calls
abbrev pub files_calls : MemFiles → Calls
files_calls files = files.calls

-- their count of reading faults
abbrev pub files_read_faults : MemFiles → ℕ
files_read_faults files = files.read_faults

-- their count of writing faults
abbrev pub files_write_faults : MemFiles → ℕ
files_write_faults files = files.write_faults

-- which objects are quiet: no call still to come is to fail, and no count stands at its end
abbrev pub source_quiet : MemSource → Type 0
source_quiet source = AreQuiet source.calls × CanRise source.faults

abbrev pub sink_quiet : MemSink → Type 0
sink_quiet sink = AreQuiet sink.calls × CanRise sink.faults

abbrev pub files_quiet : MemFiles → Type 0
files_quiet files = AreQuiet files.calls × CanRise files.read_faults × CanRise files.write_faults
