pub mod OutOfCalendar
