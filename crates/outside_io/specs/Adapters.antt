-- What an adapter holds: the standard library's object, and its counts of faults.
use Rattle.std.specs.Prelude.{◌≡◌, ℕ, List, Option, IfSome, string_bytes}
use Rattle.outside_io.specs.declared.adapters.StdSource.{StdSource}
use Rattle.outside_io.specs.declared.adapters.StdSink.{StdSink}
use Rattle.outside_io.specs.declared.adapters.KeptFile.{KeptFile}
use Rattle.outside_io.specs.declared.adapters.DirFiles.{DirFiles}

-- the reader that a source reads from
abbrev pub std_source_reader : {R : Type 0} → StdSource R → R
std_source_reader source = source.reader

-- how many of its reads failed
abbrev pub std_source_faults : {R : Type 0} → StdSource R → ℕ
std_source_faults source = source.faults

-- the writer that a sink writes to
abbrev pub std_sink_writer : {W : Type 0} → StdSink W → W
std_sink_writer sink = sink.writer

-- how many of its writes failed
abbrev pub std_sink_faults : {W : Type 0} → StdSink W → ℕ
std_sink_faults sink = sink.faults

-- the file access that the files of a folder ask
abbrev pub dir_files_runtime : {R File Dir : Type 0} → DirFiles R File Dir → R
dir_files_runtime files = files.runtime

-- how many calls that read files failed
abbrev pub dir_files_read_faults : {R File Dir : Type 0} → DirFiles R File Dir → ℕ
dir_files_read_faults files = files.read_faults

-- how many calls that write files failed
abbrev pub dir_files_write_faults : {R File Dir : Type 0} → DirFiles R File Dir → ℕ
dir_files_write_faults files = files.write_faults

-- the file that stays open to be appended to, if one does
abbrev pub dir_files_kept : {R File Dir : Type 0} → DirFiles R File Dir → Option (KeptFile File)
dir_files_kept files = files.kept

-- the file was opened by this name, where it keeps one
abbrev pub IsOpenedBy : {File : Type 0} → List ℕ → KeptFile File → Type 0
IsOpenedBy path kept = IfSome kept.name (λ name. string_bytes name ≡ path)
