-- The request that a command's arguments make: every default and every range.
use Rattle.std.specs.Prelude.{◌≡◌, ◌↔◌, ℕ, ◌≤◌, List, Option, Some, None, codes, length, map, option_map, IfSome, IsSomeAnd, IsTrue, ⊤}
use Rattle.std.specs.Str.Parse.{digits_value}
use Rattle.clap.specs.Walk.{Row, Text, all_of, first_of}
use Rattle.text_lines.specs.Numbers.{IsUpTo}
use Rattle.machine_limits.specs.Limits.{most_processes}
use Rattle.command_line.specs.declared.request.AsmRequest.{AsmRequest}
use Rattle.command_line.specs.declared.request.FlatRequest.{FlatRequest}
use Rattle.command_line.specs.declared.request.ClockRequest.{ClockRequest}
use Rattle.command_line.specs.declared.request.DriveRequest.{DriveRequest}
use Rattle.command_line.specs.declared.request.RunRequest.{RunRequest}
use Rattle.command_line.specs.declared.request.Threading.{Threading}
use Rattle.command_line.specs.declared.request.Threading.TheVariants.{Serial, Workers}
use Rattle.command_line.specs.declared.request.DebugRequest.{DebugRequest}
use Rattle.command_line.specs.declared.request.Request.{Request}
use Rattle.command_line.specs.declared.request.Request.TheVariants.{Asm, Flat, Clock, Drive, Run, Debug}

-- the values of numbers that no option gives, and the bounds of numbers: frames and slots of a machine, instructions of a slice and of a
-- whole run, threads, images
abbrev pub usual_frames : ℕ
usual_frames = 64

abbrev pub least_frames : ℕ
least_frames = 4

abbrev pub most_frames : ℕ
most_frames = 4096

abbrev pub usual_slots : ℕ
usual_slots = 4096

abbrev pub most_slots : ℕ
most_slots = 65536

abbrev pub usual_slice : ℕ
usual_slice = 1000

abbrev pub longest_slice : ℕ
longest_slice = 100000

abbrev pub usual_limit : ℕ
usual_limit = 100000000

abbrev pub highest_limit : ℕ
highest_limit = 1000000000

abbrev pub usual_workers : ℕ
usual_workers = 4

abbrev pub most_workers : ℕ
most_workers = 64

-- a decimal number from `least` to `most`, and nothing else
abbrev pub IsBetween : ℕ → ℕ → Text → Type 0
IsBetween least most text = IsUpTo most 10 text × (least ≤ digits_value 10 text)

-- the number of a text, in a range
abbrev pub IsNumberFrom : ℕ → ℕ → ℕ → Text → Type 0
IsNumberFrom least most number text = IsBetween least most text × (number ≡ digits_value 10 text)

-- the number of an option, in a range, or what it is where the option is not given
abbrev pub IsOption : ℕ → ℕ → ℕ → ℕ → Option Text → Type 0
IsOption default least most number None = number ≡ default
IsOption default least most number (Some text) = IsNumberFrom least most number text

-- the number of an option, in a range, if the option is given
abbrev pub IsNumberIfGiven : ℕ → ℕ → Option ℕ → Option Text → Type 0
IsNumberIfGiven least most number None = number ≡ None
IsNumberIfGiven least most number (Some text) = IsSomeAnd number (λ given. IsNumberFrom least most given text)

-- the files of the images, in their order
abbrev pub AreImages : List Row → List Text → Type 0
AreImages rows names = (all_of (codes "image") rows ≡ Some names) × (length names ≤ most_processes)

-- a flag is set
abbrev pub IsSet : Text → List Row → Type 0
IsSet name rows = first_of name rows ≡ Some (codes "true")

-- a number of workers, given or the default
abbrev pub AreWorkers : List Row → ℕ → Type 0
AreWorkers rows workers = IsOption usual_workers 1 most_workers workers (first_of (codes "workers") rows)

-- The request is for one thread, or else for so many workers. The flag for one thread allows a number of workers, which has to be in its
-- range. That flag allows neither lines that report how far the processes are, nor pages that are written ahead.
abbrev pub AsksThreading : List Row → Threading → Type 0
AsksThreading rows Serial = IsSet (codes "serial") rows × ((¬ IsSet (codes "status") rows) × ((¬ IsSet (codes "ahead") rows) × ((workers : ℕ) × AreWorkers rows workers)))
AsksThreading rows (Workers workers status ahead) =
    (¬ IsSet (codes "serial") rows) × (AreWorkers rows workers × ((IsTrue status ↔ IsSet (codes "status") rows) × (IsTrue ahead ↔ IsSet (codes "ahead") rows)))

abbrev pub AsksAsm : List Row → AsmRequest → Type 0
AsksAsm rows request = (first_of (codes "source") rows ≡ Some request.source.now)
    × (first_of (codes "target") rows ≡ Some request.target.now)

abbrev pub AsksFlat : List Row → FlatRequest → Type 0
AsksFlat rows request = IsOption usual_limit 1 highest_limit request.limit (first_of (codes "limit") rows)
    × (first_of (codes "input") rows ≡ option_map (λ s. s.now) request.input)
    × (first_of (codes "image") rows ≡ Some request.image.now)

abbrev pub AsksClock : List Row → ClockRequest → Type 0
AsksClock rows request = IsSomeAnd (first_of (codes "frames") rows) (IsNumberFrom least_frames most_frames request.frames)
    × (first_of (codes "script") rows ≡ Some request.script.now)

pub record AsksDrive (rows : List Row) (request : DriveRequest) : Type 0 where
  pub frames_are : IsOption usual_frames least_frames most_frames request.frames (first_of (codes "frames") rows)
  pub slots_are : IsOption usual_slots 0 most_slots request.slots (first_of (codes "slots") rows)
  pub script_is : first_of (codes "script") rows ≡ Some request.script.now
  pub images_are : AreImages rows (map (λ s. s.now) request.images.items)

pub record AsksRun (rows : List Row) (request : RunRequest) : Type 0 where
  pub frames_are : IsOption usual_frames least_frames most_frames request.frames (first_of (codes "frames") rows)
  pub slots_are : IsOption usual_slots 0 most_slots request.slots (first_of (codes "slots") rows)
  pub slice_is : IsOption usual_slice 1 longest_slice request.slice (first_of (codes "slice") rows)
  pub limit_is : IsOption usual_limit 1 highest_limit request.limit (first_of (codes "limit") rows)
  pub input_is : first_of (codes "input") rows ≡ option_map (λ s. s.now) request.input
  pub swap_is : first_of (codes "swap") rows ≡ option_map (λ s. s.now) request.swap
  pub threading_is : AsksThreading rows request.threading
  pub images_are : AreImages rows (map (λ s. s.now) request.images.items)

abbrev pub AsksDebug : List Row → DebugRequest → Type 0
AsksDebug rows request = IsNumberIfGiven least_frames most_frames request.frames (first_of (codes "frames") rows)
    × (first_of (codes "image") rows ≡ Some request.image.now)

-- what a command asks for, by its name and its arguments
abbrev pub Asks : Text → List Row → Request → Type 0
Asks name rows (Asm request) = (name ≡ codes "asm") × AsksAsm rows request
Asks name rows (Flat request) = (name ≡ codes "flat") × AsksFlat rows request
Asks name rows (Clock request) = (name ≡ codes "clock") × AsksClock rows request
Asks name rows (Drive request) = (name ≡ codes "drive") × AsksDrive rows request
Asks name rows (Run request) = (name ≡ codes "run") × AsksRun rows request
Asks name rows (Debug request) = (name ≡ codes "debug") × AsksDebug rows request

-- of the command that was found among the words, with its arguments
abbrev pub IsAsked : Option (Text × List Row) → Request → Type 0
IsAsked found request = IsSomeAnd found (λ command. Asks command.0 command.1 request)

-- what lies in a range from `least` to `most`
abbrev pub IsFrom : ℕ → ℕ → ℕ → Type 0
IsFrom least most number = (least ≤ number) × (number ≤ most)

abbrev pub IsFlatInRange : FlatRequest → Type 0
IsFlatInRange request = IsFrom 1 highest_limit request.limit

abbrev pub IsClockInRange : ClockRequest → Type 0
IsClockInRange request = IsFrom least_frames most_frames request.frames

abbrev pub IsDriveInRange : DriveRequest → Type 0
IsDriveInRange request = IsFrom least_frames most_frames request.frames × (request.slots ≤ most_slots) × (length request.images.items ≤ most_processes)

abbrev pub IsThreadingInRange : Threading → Type 0
IsThreadingInRange Serial = ⊤
IsThreadingInRange (Workers workers status ahead) = IsFrom 1 most_workers workers

abbrev pub IsRunInRange : RunRequest → Type 0
IsRunInRange request = IsFrom least_frames most_frames request.frames × (request.slots ≤ most_slots) × IsFrom 1 longest_slice request.slice
    × IsFrom 1 highest_limit request.limit × (length request.images.items ≤ most_processes) × IsThreadingInRange request.threading

abbrev pub IsDebugInRange : DebugRequest → Type 0
IsDebugInRange request = IfSome request.frames (IsFrom least_frames most_frames)

abbrev pub IsInRange : Request → Type 0
IsInRange (Asm request) = ⊤
IsInRange (Flat request) = IsFlatInRange request
IsInRange (Clock request) = IsClockInRange request
IsInRange (Drive request) = IsDriveInRange request
IsInRange (Run request) = IsRunInRange request
IsInRange (Debug request) = IsDebugInRange request
