mod FieldsAsked
